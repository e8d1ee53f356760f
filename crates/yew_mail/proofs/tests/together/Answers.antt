use Rattle.yew_mail.specs.Players.{IsSeatOf}
use Rattle.yew_mail.specs.Star.{star_members}
use Rattle.yew_mail.proofs.Players.{both_lists}
use Rattle.yew_mail.proofs.tests.together.Goals as goal

pub returns : goal.returns
returns c =
    both_lists c.in_ok-left.left.items c.in_ok-right.right.items c.append.new.self.items _ _
    (λ w. IsSeatOf c.args.mail.now (star_members c.args.star.now.leaves) w.number w.asks w.seat)
    c.in_ok-append.ensures.items (rw c.in_ok-left.was at c.requires.left) (rw c.in_ok-right.was at c.requires.right)

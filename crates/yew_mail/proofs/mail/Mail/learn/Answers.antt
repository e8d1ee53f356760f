use Rattle.std.proofs.Common.{ap, arith}
use Rattle.yew_laws.specs.Tasks.{IsAmong}
use Rattle.yew_mail.proofs.Learning.{learns}
use Rattle.yew_mail.proofs.Ties.{same_table, has_words, untold_is}
use Rattle.yew_mail.proofs.mail.Mail.learn.Goals as goal

pub load-requires : goal.load-requires
load-requires g c = (
  same_table _ _ _ c.first.inside.seat.me.0 _ _ c.first.view_is c.self.view_is (ap (λ s. s.mail) c.requires.first),
  has_words _ c.self.invariant.0,
  learns IsAmong _ _ _ _ c.first.inside.seat.me (let w = c.self.invariant.2 in let some = c.self.invariant.4 in omega (arith, w, some))
      (untold_is _ _ _ c.first.inside.seat.me.0 _ _ c.first.view_is c.self.view_is c.requires.first),
)

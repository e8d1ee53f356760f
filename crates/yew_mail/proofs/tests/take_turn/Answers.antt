use Rattle.std.proofs.Common.{arith}
use Rattle.yew_mail.proofs.Players.{leaf_among}
use Rattle.yew_mail.proofs.tests.take_turn.Goals as goal

pub gift-requires : goal.gift-requires
gift-requires c = leaf_among _ _ c.in_ok-task.task (let few = c.requires.leaves in omega (arith, few))
    c.if-number-star.false c.in_ok-task.ensures.0 c.in_ok-task.ensures.1

use Rattle.std.proofs.Common.{arith}
use Rattle.yew_mail.proofs.Players.{leaf_among}
use Rattle.yew_mail.proofs.rows.a_gift_is_fetched_or_left.Goals as goal

pub gift-requires : goal.gift-requires
gift-requires g c = leaf_among 9 3 c.in_ok-task.task (omega arith) (omega arith) c.in_ok-task.ensures.0 c.in_ok-task.ensures.1

use Rattle.std.proofs.Common.{arith}
use Rattle.yew_pool.proofs.Trying.{child_sound}
use Rattle.yew_pool.proofs.tests.put.Goals as goal

pub put-requires-clause-sound : goal.put-requires-clause-sound
put-requires-clause-sound c =
    child_sound c.args.problem.now.width c.args.number _ c.in_ok-task.task c.requires.width (omega (arith, c.if-number-problem.false))
    c.requires.pass.for_members c.in_ok-task.ensures.0 c.in_ok-task.ensures.1

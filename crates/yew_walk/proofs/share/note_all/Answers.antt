use Rattle.std.proofs.Common.{arith}
use Rattle.yew_stack.specs.Splits.{paths_of}
use Rattle.yew_walk.proofs.Noted.{noted-none, noted-next, noted-all, noted-stops}
use Rattle.yew_walk.proofs.share.note_all.Goals as goal

pub loop-task-init : goal.loop-task-init
loop-task-init g c = noted-none _ c.args.what (paths_of c.args.tasks.now)

pub returns-in-Err-clause-err : goal.returns-in-Err-clause-err
returns-in-Err-clause-err g c = noted-stops c.args.tasks.now _ _ _ c.args.what c.loop-task.task-index c.task-item.result c.in-Err.fault c.loop-task-test.true c.task-item.is c.loop-task.invariant c.in-Err.ensures.err c.in-Err.ensures.cause

pub loop-task-preserved : goal.loop-task-preserved
loop-task-preserved g c = noted-next c.args.tasks.now _ _ _ c.args.what c.loop-task.task-index c.task-item.result c.loop-task-test.true c.task-item.is c.loop-task.invariant c.in-Ok.ensures.ok c.in-Ok.ensures.within

pub returns-clause-ok : goal.returns-clause-ok
returns-clause-ok g c = noted-all c.args.tasks.now _ _ c.args.what c.loop-task.task-index (omega (arith, c.loop-task-test.false)) c.loop-task.invariant

pub returns-clause-within : goal.returns-clause-within
returns-clause-within g c = c.loop-task.invariant.within

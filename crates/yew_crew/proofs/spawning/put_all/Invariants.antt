use Rattle.std.proofs.Common.{◌≡◌, length}
use Rattle.yew_laws.specs.Tasks.{IsAmong}
use Rattle.yew_pool.specs.Tasks.{IsSoundFor}
use Rattle.yew_crew.proofs.Putting.{IsPutting}
use Rattle.yew_crew.proofs.spawning.put_all.Given as goal

abbrev pub invariant-loop-task : goal.invariant-loop-task
invariant-loop-task g l =
    (l.pass ≡ record l.initial.pass { put = l.pass.put }) ×
    IsPutting (IsSoundFor IsAmong l.initial.pass.members) l.initial.pass.put l.fn.tasks.items l.rest.items l.pass.put

abbrev pub decreases-loop-task : goal.decreases-loop-task
decreases-loop-task g l = length l.rest.items

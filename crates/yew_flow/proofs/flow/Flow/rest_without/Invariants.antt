use Rattle.std.proofs.Common.{◌≡◌, ◌-◌, slice_index}
use Rattle.yew_flow.specs.Instance.{time_on}
use Rattle.yew_flow.proofs.Rows.{front}
use Rattle.yew_flow.proofs.flow.Flow.rest_without.Given as goal

abbrev pub invariant-loop-machine : goal.invariant-loop-machine
invariant-loop-machine l = l.less ≡ front (λ machine. slice_index l.rest (machine - 1) - time_on l.self l.job machine) l.rest (l.machine - 1)

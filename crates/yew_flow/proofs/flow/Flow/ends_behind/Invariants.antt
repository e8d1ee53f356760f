use Rattle.std.proofs.Common.{◌≡◌, ◌-◌}
use Rattle.yew_flow.specs.Nodes.{done_on}
use Rattle.yew_flow.proofs.Rows.{front}
use Rattle.yew_flow.proofs.flow.Flow.ends_behind.Given as goal

abbrev pub invariant-loop-machine : goal.invariant-loop-machine
invariant-loop-machine l = record {
  done_is : l.done ≡ done_on l.self l.ends l.job (l.machine - 1);
  behind_is : l.behind ≡ front (done_on l.self l.ends l.job) l.ends (l.machine - 1);
}

use Rattle.std.proofs.Common.{◌≡◌, ◌-◌}
use Rattle.std.specs.Prelude.{replicate}
use Rattle.yew_flow.specs.Instance.{Instance}
use Rattle.yew_flow.specs.Nodes.{all_jobs, time_of_all}
use Rattle.yew_flow.proofs.Rows.{front}
use Rattle.yew_flow.proofs.flow.totals.Given as goal

abbrev pub invariant-loop-machine : goal.invariant-loop-machine
invariant-loop-machine l =
    let instance : Instance = record { jobs = l.jobs; machines = l.machines; times = l.times } in
    l.totals ≡ front (time_of_all instance (all_jobs instance)) (replicate 32 0) (l.machine - 1)

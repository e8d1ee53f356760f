use Rattle.std.proofs.Common.{◌≡◌, ◌-◌}
use Rattle.std.specs.List.{range_with_len}
use Rattle.yew_flow.specs.Nodes.{time_of_all}
use Rattle.yew_flow.proofs.flow.total_on.Given as goal

abbrev pub invariant-loop-job : goal.invariant-loop-job
invariant-loop-job l = l.total ≡ time_of_all (record { jobs = l.jobs; machines = l.machines; times = l.times }) (range_with_len 1 (l.job - 1)) l.machine

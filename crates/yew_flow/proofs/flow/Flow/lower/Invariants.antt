use Rattle.std.proofs.Common.{◌≡◌, ◌-◌, map}
use Rattle.std.specs.List.{range_with_len}
use Rattle.yew_flow.specs.Nodes.{greatest_of, lower_on, jobs_of}
use Rattle.yew_flow.proofs.flow.Flow.lower.Given as goal

abbrev pub invariant-loop-machine : goal.invariant-loop-machine
invariant-loop-machine l = l.lower ≡ greatest_of (map (lower_on l.self (jobs_of l.node)) (range_with_len 1 (l.machine - 1)))

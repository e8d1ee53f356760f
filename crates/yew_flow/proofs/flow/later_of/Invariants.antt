use Rattle.std.proofs.Common.{◌≡◌, map}
use Rattle.std.specs.List.{range_with_len}
use Rattle.yew_flow.specs.Nodes.{later_entry}
use Rattle.yew_flow.proofs.flow.later_of.Given as goal

abbrev pub invariant-loop-place : goal.invariant-loop-place
invariant-loop-place l = l.later.items ≡ map (later_entry (record { jobs = l.fn.jobs; machines = l.fn.machines; times = l.times })) (range_with_len 0 l.place)

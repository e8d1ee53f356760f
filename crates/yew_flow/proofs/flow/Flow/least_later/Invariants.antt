use Rattle.std.proofs.Common.{◌≡◌, drop}
use Rattle.std.specs.List.{find}
use Rattle.yew_flow.specs.Nodes.{later_table, places_by}
use Rattle.yew_flow.proofs.FirstLeast.{is_absent}
use Rattle.yew_flow.proofs.flow.Flow.least_later.Given as goal

abbrev pub invariant-loop-rank : goal.invariant-loop-rank
invariant-loop-rank l = find (is_absent l.absent) (drop l.rank (places_by (later_table l.self) l.self.jobs l.machine)) ≡ find (is_absent l.absent) (places_by (later_table l.self) l.self.jobs l.machine)

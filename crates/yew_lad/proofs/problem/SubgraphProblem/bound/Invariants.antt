use Rattle.std.proofs.Common.{◌≡◌, drop, length}
use Rattle.std.specs.List.{list_all}
use Rattle.yew_lad.specs.Nodes.{has_candidate}
use Rattle.yew_lad.specs.SearchedOrder.{searched_order}
use Rattle.yew_lad.proofs.problem.SubgraphProblem.bound.Given as goal

abbrev pub invariant-loop-place : goal.invariant-loop-place
invariant-loop-place l = list_all (has_candidate l.self l.node) (drop l.place (searched_order l.self.pattern)) ≡ list_all (has_candidate l.self l.node) (drop (length l.node) (searched_order l.self.pattern))

use Rattle.std.proofs.Common.{◌≡◌, ◌≤◌, min}
use Rattle.yew_tsp.specs.Nodes.{least_weight}
use Rattle.yew_tsp.proofs.Least.{least_behind}
use Rattle.yew_tsp.proofs.tours.least_from.Given as goal

abbrev pub invariant-loop-other : goal.invariant-loop-other
invariant-loop-other l = record {
  least : min l.least (least_behind (record { cities = l.cities; weights = l.weights }) l.city l.other) ≡ least_weight (record { cities = l.cities; weights = l.weights }) l.city;
  small : l.least ≤ 2147483647;
}

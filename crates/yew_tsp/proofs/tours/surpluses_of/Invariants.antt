use Rattle.std.proofs.Common.{◌≡◌, map}
use Rattle.std.specs.List.{range_with_len}
use Rattle.yew_tsp.specs.Nodes.{surplus_at}
use Rattle.yew_tsp.proofs.tours.surpluses_of.Given as goal

abbrev pub invariant-loop-place : goal.invariant-loop-place
invariant-loop-place l = l.surpluses.items ≡ map (surplus_at (record { cities = l.fn.cities; weights = l.weights })) (range_with_len 0 l.place)

use Rattle.std.proofs.Common.{◌≡◌, ◌-◌, map}
use Rattle.std.specs.Prelude.{flat_map, zip}
use Rattle.std.specs.List.{range_with_len}
use Rattle.yew_tsp.specs.Matrices.{places, weight_from}
use Rattle.yew_tsp.proofs.matrix.weights.Given as goal

-- the weights from the first cities are there
abbrev pub invariant-loop-row : goal.invariant-loop-row
invariant-loop-row l =
    l.weights.items ≡ flat_map (λ i. map (λ j. weight_from (zip (places l.fn.format l.fn.cities) l.numbers) i j) (range_with_len 1 l.fn.cities)) (range_with_len 1 (l.row - 1))

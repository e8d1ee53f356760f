use Rattle.std.proofs.Common.{◌≡◌, ◌++◌, ◌-◌, map}
use Rattle.std.specs.Prelude.{zip}
use Rattle.std.specs.List.{range_with_len}
use Rattle.yew_tsp.specs.Matrices.{places, weight_from}
use Rattle.yew_tsp.proofs.matrix.Matrix.push_row.Given as goal

-- the weights to the first cities are there
abbrev pub invariant-loop-column : goal.invariant-loop-column
invariant-loop-column l =
    l.weights.items ≡ l.fn.weights.items ++ map (weight_from (zip (places l.self.format l.self.cities) l.self.numbers.now) l.row) (range_with_len 1 (l.column - 1))

use Rattle.std.proofs.Common.{◌∙◌, ◌-◌, ◌∷◌, [], ◌++◌, map, append_assoc, ap, sym, arith}
use Rattle.std.specs.Prelude.{zip}
use Rattle.std.specs.List.{range_with_len}
use Rattle.std.proofs.lemmas.List.{map_push}
use Rattle.yew_tsp.specs.Lists.{range-push}
use Rattle.yew_tsp.specs.Matrices.{places, weight_from}
use Rattle.yew_tsp.proofs.matrix.Matrix.push_row.Goals as goal

pub loop-column-preserved : goal.loop-column-preserved
loop-column-preserved c =
    let m = c.args.self.now in
    let weight = weight_from (zip (places m.format m.cities) m.numbers.now) c.args.row in
    let column = c.loop-column.column in
    c.in_ok-push.ensures.items
    ∙ ap (λ ws. ws ++ c.weight.result ∷ []) c.loop-column.invariant
    ∙ ap (λ w. c.args.weights.now.items ++ map weight (range_with_len 1 (column - 1)) ++ w ∷ []) c.weight.ensures
    ∙ append_assoc c.args.weights.now.items (map weight (range_with_len 1 (column - 1))) (weight column ∷ [])
    ∙ sym (ap (λ ws. c.args.weights.now.items ++ ws) (ap (map weight) (range-push column (omega arith)) ∙ map_push weight (range_with_len 1 (column - 1)) column))

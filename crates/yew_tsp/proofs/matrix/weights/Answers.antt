use Rattle.std.proofs.Common.{◌∙◌, ◌-◌, [], ◌++◌, List, ℕ, map, ap, sym, arith}
use Rattle.std.specs.Prelude.{flat_map, zip}
use Rattle.std.specs.List.{range_with_len}
use Rattle.std.proofs.lemmas.List.{flat_map_more}
use Rattle.yew_tsp.specs.Lists.{range-push}
use Rattle.yew_tsp.specs.Matrices.{places, weight_from}
use Rattle.yew_tsp.proofs.matrix.weights.Goals as goal

pub loop-row-preserved : goal.loop-row-preserved
loop-row-preserved c =
    let row_of : ℕ → List ℕ = λ i. map (λ j. weight_from (zip (places c.args.format c.args.cities) c.args.numbers.now) i j) (range_with_len 1 c.args.cities) in
    let row = c.loop-row.row in
    c.in_ok-push_row.ensures
    ∙ ap (λ ws. ws ++ row_of row) c.loop-row.invariant
    ∙ flat_map_more row_of [] (range_with_len 1 (row - 1)) row
    ∙ ap (flat_map row_of) (sym (range-push row (omega arith)))

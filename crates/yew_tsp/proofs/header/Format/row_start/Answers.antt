use Rattle.std.proofs.Common.{◌≡◌, ◌+◌, ◌-◌, ◌∷◌, [], ◌++◌, ◌∙◌, ap, arith}
use Rattle.std.specs.List.{range_with_len, sum_by}
use Rattle.std.proofs.lemmas.List.Sums.{sum_by_push}
use Rattle.yew_tsp.specs.Lists.{range-push}
use Rattle.yew_tsp.specs.Matrices.{row_length}
use Rattle.yew_tsp.proofs.Counts.{row-small, rows-small}
use Rattle.yew_tsp.proofs.header.Format.row_start.Goals as goal

pub overflow_add-start : goal.overflow_add-start
overflow_add-start c =
    let sum = c.loop-before.invariant.sum in
    let small = rows-small c.args.self c.args.cities (c.loop-before.before - 1) c.requires.cities (omega arith) in
    let one = row-small c.args.self c.args.cities c.loop-before.before c.requires.cities (omega arith) in
    omega (arith, sum, small, one)

pub loop-before-preserved : goal.loop-before-preserved
loop-before-preserved c =
    let before = c.loop-before.before in
    let range : range_with_len 1 (before + 1 - 1) ≡ range_with_len 1 (before - 1) ++ before ∷ [] = range-push before (omega arith) in
    let more = ap (sum_by (row_length c.args.self c.args.cities)) range ∙ sum_by_push (row_length c.args.self c.args.cities) (range_with_len 1 (before - 1)) before in
    let sum = c.loop-before.invariant.sum in
    record { sum = omega (arith, more, sum); within = omega arith }

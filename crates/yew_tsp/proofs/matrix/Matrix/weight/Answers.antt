use Rattle.std.proofs.Common.{◌≡◌, ◌∙◌, ◌+◌, ◌-◌, get_or, ap, sym, arith}
use Rattle.yew_tsp.specs.Matrices.{first_column, row_start}
use Rattle.yew_tsp.proofs.Counts.{rows-small}
use Rattle.yew_tsp.proofs.Weights.{in-row, mirrored, place-within, weight-there, weight-mirrored}
use Rattle.yew_tsp.proofs.matrix.Matrix.weight.Goals as goal

pub overflow_add-result : goal.overflow_add-result
overflow_add-result c =
    let small = rows-small c.args.self.now.format c.args.self.now.cities (c.args.row - 1) c.requires.few (omega arith) in
    let start = c.row_start-start.ensures in
    omega (arith, small, start)

pub offset_bounds-self-start : goal.offset_bounds-self-start
offset_bounds-self-start c =
    let small = rows-small c.args.self.now.format c.args.self.now.cities (c.args.row - 1) c.requires.few (omega arith) in
    let start = c.row_start-start.ensures in
    omega (arith, small, start)

pub bounds-self-start : goal.bounds-self-start
bounds-self-start c =
    let m = c.args.self.now in
    let there = in-row m.cities c.args.row c.args.column c.requires.row.0 c.requires.row.1 c.requires.column.0 c.requires.column.1 c.if-row-column.false m.format (sym c.has.ensures ∙ c.if-has.true) in
    let within = place-within m.format m.cities m.numbers.now c.requires.count c.args.row c.args.column c.requires.row.0 c.requires.row.1 there in
    let start = c.row_start-start.ensures in
    let first = c.first_column.ensures in
    omega (arith, within, start, first)

pub returns-then-has : goal.returns-then-has
returns-then-has c =
    let m = c.args.self.now in
    let start = c.row_start-start.ensures in
    let first = c.first_column.ensures in
    let place : c.row_start-start.result + (c.args.column - c.first_column.result) ≡ row_start m.format m.cities c.args.row + (c.args.column - first_column m.format c.args.row) = omega (arith, start, first) in
    ap (λ k. get_or m.numbers.now k 0) place
    ∙ sym (weight-there m.format m.cities m.numbers.now c.requires.count c.args.row c.args.column c.requires.row.0 c.requires.row.1 c.requires.column.0 c.requires.column.1 c.if-row-column.false (sym c.has.ensures ∙ c.if-has.true))

pub overflow_add-result-2 : goal.overflow_add-result-2
overflow_add-result-2 c =
    let small = rows-small c.args.self.now.format c.args.self.now.cities (c.args.column - 1) c.requires.few (omega arith) in
    let start = c.row_start-start-2.ensures in
    omega (arith, small, start)

pub offset_bounds-self-start-2 : goal.offset_bounds-self-start-2
offset_bounds-self-start-2 c =
    let small = rows-small c.args.self.now.format c.args.self.now.cities (c.args.column - 1) c.requires.few (omega arith) in
    let start = c.row_start-start-2.ensures in
    omega (arith, small, start)

pub bounds-self-start-2 : goal.bounds-self-start-2
bounds-self-start-2 c =
    let m = c.args.self.now in
    let turned = mirrored m.cities c.args.row c.args.column c.requires.row.0 c.requires.row.1 c.requires.column.0 c.requires.column.1 c.if-row-column.false m.format (sym c.has.ensures ∙ c.if-has.false) in
    let there = in-row m.cities c.args.column c.args.row c.requires.column.0 c.requires.column.1 c.requires.row.0 c.requires.row.1 (λ e. c.if-row-column.false (sym e)) m.format turned in
    let within = place-within m.format m.cities m.numbers.now c.requires.count c.args.column c.args.row c.requires.column.0 c.requires.column.1 there in
    let start = c.row_start-start-2.ensures in
    let first = c.first_column-2.ensures in
    omega (arith, within, start, first)

pub returns : goal.returns
returns c =
    let m = c.args.self.now in
    let start = c.row_start-start-2.ensures in
    let first = c.first_column-2.ensures in
    let place : c.row_start-start-2.result + (c.args.row - c.first_column-2.result) ≡ row_start m.format m.cities c.args.column + (c.args.row - first_column m.format c.args.column) = omega (arith, start, first) in
    ap (λ k. get_or m.numbers.now k 0) place
    ∙ sym (weight-mirrored m.format m.cities m.numbers.now c.requires.count c.args.row c.args.column c.requires.row.0 c.requires.row.1 c.requires.column.0 c.requires.column.1 c.if-row-column.false (sym c.has.ensures ∙ c.if-has.false))

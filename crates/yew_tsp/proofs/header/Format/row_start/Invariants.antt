use Rattle.std.proofs.Common.{◌≡◌, ◌≤◌, ◌-◌}
use Rattle.std.specs.List.{range_with_len, sum_by}
use Rattle.yew_tsp.specs.Matrices.{row_length}
use Rattle.yew_tsp.proofs.header.Format.row_start.Given as goal

abbrev pub invariant-loop-before : goal.invariant-loop-before
invariant-loop-before l = record {
  sum : l.start ≡ sum_by (row_length l.self l.cities) (range_with_len 1 (l.before - 1));
  within : l.before ≤ l.row;
}

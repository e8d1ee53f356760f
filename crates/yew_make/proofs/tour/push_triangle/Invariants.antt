use Rattle.std.proofs.Common.{◌≡◌, ◌++◌, map}
use Rattle.std.specs.List.{range_with_len}
use Rattle.yew_make.specs.Draws.{state_after}
use Rattle.yew_knap.specs.Rows.{row_lines}
use Rattle.yew_make.specs.Pairs.{pairs_before}
use Rattle.yew_make.specs.Tours.{triangle_row}
use Rattle.yew_make.proofs.tour.push_triangle.Given as goal

-- the first lines are there
abbrev pub invariant-loop-row : goal.invariant-loop-row
invariant-loop-row l = record {
  text : l.out.items ≡ l.fn.out.items ++ row_lines (map (triangle_row l.fn.draws l.size) (range_with_len 0 l.row));
  state : l.draws ≡ state_after l.fn.draws (pairs_before l.size l.row);
}

use Rattle.std.proofs.Common.{◌≡◌, ◌++◌, map}
use Rattle.std.specs.List.{range_with_len}
use Rattle.yew_lad.specs.Files.{vertex_numbers}
use Rattle.yew_knap.specs.Rows.{row_lines}
use Rattle.yew_make.specs.Graphs.{kept, successors_of}
use Rattle.yew_make.proofs.graph.push_vertices.Given as goal

-- the first lines are there
abbrev pub invariant-loop-u : goal.invariant-loop-u
invariant-loop-u l = l.out.items ≡ l.fn.out.items ++ row_lines (map vertex_numbers (map (successors_of (kept l.pairs) l.size) (range_with_len 0 l.u)))

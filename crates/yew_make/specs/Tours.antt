-- The tour instance of a seed and a size: the lengths between different cities, in both directions alike.
use Rattle.std.specs.Prelude.{ℕ, suc, ◌-◌, List, ◌++◌, map, decimal, codes}
use Rattle.std.specs.List.{range_with_len}
use Rattle.yew_lines.specs.Spelling.{line}
use Rattle.yew_tsp.specs.declared.header.Format.TheVariants.{UpperRow}
use Rattle.yew_tsp.specs.Instance.{Instance}
use Rattle.yew_tsp.specs.Files.{Contents, instance_of}
use Rattle.yew_make.specs.Draws.{first_state, weights_from}
use Rattle.yew_make.specs.Pairs.{pairs_before}
use Rattle.yew_knap.specs.Rows.{row_lines, row_numbers}

-- row u of the triangle above the diagonal, counted from 0: a weight for each pair of u with a number above it
abbrev pub triangle_row : ℕ → ℕ → ℕ → List ℕ
triangle_row state size u = weights_from state (pairs_before size u) (size - suc u)

abbrev pub triangle_from : ℕ → ℕ → List (List ℕ)
triangle_from state size = map (triangle_row state size) (range_with_len 0 (size - 1))

-- the triangle of a seed, and its numbers row by row
abbrev pub made_triangle : ℕ → ℕ → List (List ℕ)
made_triangle seed size = triangle_from (first_state seed) size

abbrev pub made_weights : ℕ → ℕ → List ℕ
made_weights seed size = row_numbers (made_triangle seed size)

-- the numbers of a file of these cities, and the instance
abbrev pub made_contents : ℕ → ℕ → Contents
made_contents seed size = record { cities = size; format = UpperRow; numbers = made_weights seed size }

abbrev pub made_tours : ℕ → ℕ → Instance
made_tours seed size = instance_of (made_contents seed size)

-- the specification part of a file of TSPLIB 95
abbrev pub tour_head : ℕ → List ℕ
tour_head size = line (codes "NAME: made") ++ line (codes "TYPE: TSP") ++ line (codes "DIMENSION: " ++ decimal size) ++ line (codes "EDGE_WEIGHT_TYPE: EXPLICIT") ++ line (codes "EDGE_WEIGHT_FORMAT: UPPER_ROW") ++ line (codes "EDGE_WEIGHT_SECTION")

-- a line for each row of the triangle, and the line that ends the file
abbrev pub matrix_text : List (List ℕ) → List ℕ
matrix_text triangle = row_lines triangle ++ line (codes "EOF")

abbrev pub tour_text : ℕ → List (List ℕ) → List ℕ
tour_text size triangle = tour_head size ++ matrix_text triangle

-- Queens on a board. A placement is the list of the columns of the queens in rows 0, 1, 2 and so on, one in each row.
use Rattle.std.specs.Prelude.{ℕ, ◌+◌, Bool, true, not, ◌&&◌, ◌||◌, ◌==◌, List, [], ◌∷◌, map, count_by}
use Rattle.std.specs.List.{flat_map, range_with_len}
use Rattle.std.proofs.Common.{zero, suc}

-- two queens in different rows, so many rows apart, attack each other: one column, or one diagonal
abbrev pub attacks : ℕ → ℕ → ℕ → Bool
attacks rows c d = c == d || c + rows == d || d + rows == c

-- a queen in column c attacks none of these, the first of which is so many rows away
abbrev pub spares : ℕ → ℕ → List ℕ → Bool
spares c rows [] = true
spares c rows (d ∷ ds) = not (attacks rows c d) && spares c (suc rows) ds

-- no two queens of a placement attack each other
abbrev pub is_peaceful : List ℕ → Bool
is_peaceful [] = true
is_peaceful (c ∷ cs) = spares c 1 cs && is_peaceful cs

-- all placements of one queen in each of so many rows of a board of this width, whether they attack or not
abbrev pub all_placements : ℕ → ℕ → List (List ℕ)
all_placements width zero = [] ∷ []
all_placements width (suc rows) = flat_map (λ c. map (λ cs. c ∷ cs) (all_placements width rows)) (range_with_len 0 width)

-- how many ways there are to place n queens on a board of n by n, so that none attacks another
abbrev pub number_of_ways : ℕ → ℕ
number_of_ways n = count_by is_peaceful (all_placements n n)

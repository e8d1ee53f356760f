-- The tree of placements: row by row, each queen where none attacks it.
use Rattle.std.specs.Prelude.{ℕ, ◌-◌, Bool, true, not, ◌&&◌, ◌==◌, List, [], ◌∷◌, ◌++◌, length, map, nat_lt, if◌then◌else◌}
use Rattle.std.specs.List.{filter, range_with_len}
use Rattle.yew_laws.specs.SearchTree.{SearchTree}
use Rattle.yew_queens.specs.Boards.{attacks}

-- a queen in the next row, in this column, is attacked by none
abbrev pub is_free : List ℕ → ℕ → Bool
is_free [] c = true
is_free (d ∷ ds) c = not (attacks (length (d ∷ ds)) d c) && is_free ds c

-- the placements with one queen more
abbrev pub children_of : ℕ → List ℕ → List (List ℕ)
children_of size columns = if nat_lt (length columns) size then map (λ c. columns ++ c ∷ []) (filter (is_free columns) (range_with_len 0 size)) else []

-- how many rows are still without a queen
abbrev pub rows_left : ℕ → List ℕ → ℕ
rows_left size columns = size - length columns

-- a queen in each row is an answer
abbrev pub worth_of : ℕ → List ℕ → ℕ
worth_of size columns = if length columns == size then 1 else 0

-- the tree of placements on a board
abbrev pub board_tree : ℕ → SearchTree (List ℕ)
board_tree size = record { root = []; children = children_of size; rank = rows_left size; worth = worth_of size; bound = λ _. 1 }

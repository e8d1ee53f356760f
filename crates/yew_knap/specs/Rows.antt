-- How rows of numbers are spelled.
use Rattle.std.specs.Prelude.{ℕ, List, [], ◌∷◌, ◌++◌, flat_map, decimal}
use Rattle.yew_lines.specs.Spelling.{line, spaced}

-- numbers with one space between
abbrev pub spaced_apart : List ℕ → List ℕ
spaced_apart [] = []
spaced_apart (n ∷ ns) = decimal n ++ flat_map spaced ns

-- a line of numbers, and a line for each row
abbrev pub row_line : List ℕ → List ℕ
row_line row = line (spaced_apart row)

abbrev pub row_lines : List (List ℕ) → List ℕ
row_lines rows = flat_map row_line rows

-- the numbers of all rows
abbrev pub row_numbers : List (List ℕ) → List ℕ
row_numbers rows = flat_map (λ row. row) rows

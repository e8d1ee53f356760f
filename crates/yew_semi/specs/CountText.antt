-- How counts by genus are spelled, as bytes.
use Rattle.std.specs.Prelude.{ℕ, suc, List, [], ◌∷◌, ◌++◌, decimal, codes}
use Rattle.yew_lines.specs.Spelling.{line, count_text}

-- a line for each count: its genus, from the first genus on, and the count
abbrev pub count_lines : ℕ → List ℕ → List ℕ
count_lines genus [] = []
count_lines genus (count ∷ counts) = line (decimal genus ++ codes " " ++ count_text count) ++ count_lines (suc genus) counts

-- The texts of answers, and which of them are right.
use Rattle.std.specs.Prelude.{◌≡◌, ℕ, List, ◌++◌, IsTrue, codes}
use Rattle.yew_lines.specs.Spelling.{line, numbers_line}
use Rattle.yew_lad.specs.Digraphs.{GraphPair}
use Rattle.yew_lad.specs.Maps.{is_map, HasMap}

-- the line of the images of the pattern's vertices
abbrev pub map_line : List ℕ → List ℕ
map_line images = numbers_line (codes "map") images

-- that there is a map, and one
abbrev pub yes_lines : List ℕ → List ℕ
yes_lines images = line (codes "yes") ++ map_line images

-- that there is none
abbrev pub no_line : List ℕ
no_line = line (codes "no")

-- the text says yes, and gives a map
pub record IsYesText (pair : GraphPair) (text : List ℕ) : Type 0 where
  pub images : List ℕ
  pub is : IsTrue (is_map pair images)
  pub text_is : text ≡ yes_lines images

-- the text says no, and there is no map
pub record IsNoText (pair : GraphPair) (text : List ℕ) : Type 0 where
  pub no_map : ¬ HasMap pair
  pub text_is : text ≡ no_line

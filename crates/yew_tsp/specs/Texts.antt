-- The texts of answers, and which of them are right.
use Rattle.std.specs.Prelude.{◌≡◌, ℕ, ◌+◌, ◌≤◌, List, [], ◌∷◌, ◌++◌, IsTrue, codes}
use Rattle.yew_lines.specs.Spelling.{numbers_line}
use Rattle.yew_tsp.specs.Instance.{Instance}
use Rattle.yew_tsp.specs.Routes.{is_tour, tour_length, IsLeastLength}

-- a length, and the cities of a tour in order
abbrev pub best_lines : ℕ → List ℕ → List ℕ
best_lines length cities = numbers_line (codes "best") (length ∷ []) ++ numbers_line (codes "tour") cities

-- a length, by how much it may exceed the least, and the cities of a tour in order
abbrev pub near_lines : ℕ → ℕ → List ℕ → List ℕ
near_lines length gap cities = numbers_line (codes "found") (length ∷ []) ++ numbers_line (codes "within") (gap ∷ []) ++ numbers_line (codes "tour") cities

-- the text gives the least length, and a tour that has it
pub record IsBestText (instance : Instance) (text : List ℕ) : Type 0 where
  pub cities : List ℕ
  pub tours : IsTrue (is_tour instance cities)
  pub is_least : IsLeastLength instance (tour_length instance cities)
  pub text_is : text ≡ best_lines (tour_length instance cities) cities

-- the text gives a length that exceeds the least by no more than the gap, and a tour that has it
pub record IsNearText (instance : Instance) (gap : ℕ) (text : List ℕ) : Type 0 where
  pub cities : List ℕ
  pub tours : IsTrue (is_tour instance cities)
  pub least : ℕ
  pub is_least : IsLeastLength instance least
  pub within : tour_length instance cities ≤ least + gap
  pub text_is : text ≡ near_lines (tour_length instance cities) gap cities

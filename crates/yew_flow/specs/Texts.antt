-- The texts of answers, and which of them are right.
use Rattle.std.specs.Prelude.{◌≡◌, ℕ, ◌+◌, ◌≤◌, List, [], ◌∷◌, ◌++◌, IsTrue, codes}
use Rattle.yew_lines.specs.Spelling.{numbers_line}
use Rattle.yew_flow.specs.Instance.{Instance}
use Rattle.yew_flow.specs.Orders.{is_order, makespan, IsLeastMakespan}

-- a makespan, and the jobs of an order
abbrev pub best_lines : ℕ → List ℕ → List ℕ
best_lines span jobs = numbers_line (codes "best") (span ∷ []) ++ numbers_line (codes "order") jobs

-- a makespan, by how much it may exceed the least, and the jobs of an order
abbrev pub near_lines : ℕ → ℕ → List ℕ → List ℕ
near_lines span gap jobs = numbers_line (codes "found") (span ∷ []) ++ numbers_line (codes "within") (gap ∷ []) ++ numbers_line (codes "order") jobs

-- the text gives the least makespan, and an order that has it
pub record IsBestText (instance : Instance) (text : List ℕ) : Type 0 where
  pub jobs : List ℕ
  pub orders : IsTrue (is_order instance jobs)
  pub is_least : IsLeastMakespan instance (makespan instance jobs)
  pub text_is : text ≡ best_lines (makespan instance jobs) jobs

-- the text gives a makespan that exceeds the least by no more than the gap, and an order that has it
pub record IsNearText (instance : Instance) (gap : ℕ) (text : List ℕ) : Type 0 where
  pub jobs : List ℕ
  pub orders : IsTrue (is_order instance jobs)
  pub least : ℕ
  pub is_least : IsLeastMakespan instance least
  pub within : makespan instance jobs ≤ least + gap
  pub text_is : text ≡ near_lines (makespan instance jobs) gap jobs

-- The texts of answers, and which of them are right, and the text of a problem.
use Rattle.std.specs.Prelude.{◌≡◌, ℕ, ◌+◌, ◌<◌, ◌≤◌, List, [], ◌∷◌, ◌++◌, length, map, IsTrue, codes, replicate}
use Rattle.yew_lines.specs.Spelling.{line, numbers_line}
use Rattle.yew_knap.specs.declared.form.Form.TheVariants.{Triples}
use Rattle.yew_knap.specs.Files.{item_numbers}
use Rattle.yew_knap.specs.Instance.{Instance}
use Rattle.yew_knap.specs.Packings.{profit_of, is_packing, IsBestProfit}
use Rattle.yew_knap.specs.Rows.{row_lines}

-- the numbers of items from one on, each as often as its count says
abbrev pub numbers_from : ℕ → List ℕ → List ℕ
numbers_from number [] = []
numbers_from number (count ∷ counts) = replicate count number ++ numbers_from (number + 1) counts

-- the line of a list of numbers of copies: the number of each item once for each chosen copy. Items are numbered from 1
abbrev pub items_line : List ℕ → List ℕ
items_line chosen = numbers_line (codes "items") (numbers_from 1 chosen)

-- a profit and a choice of copies that has it
abbrev pub best_lines : ℕ → List ℕ → List ℕ
best_lines profit chosen = numbers_line (codes "best") (profit ∷ []) ++ items_line chosen

-- a profit, by how much the best may exceed it, and a choice of copies that has it
abbrev pub near_lines : ℕ → ℕ → List ℕ → List ℕ
near_lines profit gap chosen = numbers_line (codes "found") (profit ∷ []) ++ numbers_line (codes "within") (gap ∷ []) ++ items_line chosen

-- that some choice of copies meets a target, and such a choice
abbrev pub yes_lines : List ℕ → List ℕ
yes_lines chosen = line (codes "yes") ++ items_line chosen

-- that no choice of copies meets a target
abbrev pub no_line : List ℕ
no_line = line (codes "no")

-- the row of the number of items and the capacity, and a row for each item
abbrev pub triples_rows : Instance → List (List ℕ)
triples_rows instance = (length instance.items ∷ instance.capacity ∷ []) ∷ map (item_numbers Triples) instance.items

-- the text of the problem as a file of the second form
abbrev pub triples_text : Instance → List ℕ
triples_text instance = line (codes "knapsack 2") ++ row_lines (triples_rows instance)

-- the text gives the best profit, and numbers of copies that can be carried and have it
pub record IsBestText (instance : Instance) (text : List ℕ) : Type 0 where
  pub chosen : List ℕ
  pub packs : IsTrue (is_packing instance chosen)
  pub is_best : IsBestProfit instance (profit_of instance chosen)
  pub text_is : text ≡ best_lines (profit_of instance chosen) chosen

-- the text gives a profit that the best exceeds by no more than the gap, and numbers of copies that can be carried and have it
pub record IsNearText (instance : Instance) (gap : ℕ) (text : List ℕ) : Type 0 where
  pub chosen : List ℕ
  pub packs : IsTrue (is_packing instance chosen)
  pub best : ℕ
  pub is_best : IsBestProfit instance best
  pub within : best ≤ profit_of instance chosen + gap
  pub text_is : text ≡ near_lines (profit_of instance chosen) gap chosen

-- the text says yes, and gives numbers of copies that can be carried and whose profit meets the target
pub record IsYesText (instance : Instance) (target : ℕ) (text : List ℕ) : Type 0 where
  pub chosen : List ℕ
  pub packs : IsTrue (is_packing instance chosen)
  pub meets : target ≤ profit_of instance chosen
  pub text_is : text ≡ yes_lines chosen

-- the text says no, and the best profit does not meet the target
pub record IsNoText (instance : Instance) (target : ℕ) (text : List ℕ) : Type 0 where
  pub best : ℕ
  pub is_best : IsBestProfit instance best
  pub below : best < target
  pub text_is : text ≡ no_line

-- The best members of a tree, by their worth.
use Rattle.std.specs.Prelude.{ℕ, ◌≤◌, max, List, [], ◌∷◌, Option, Some, None, Any, ◌==◌, if◌then◌else◌}
use Rattle.yew_laws.specs.Tree.{Member}
use Rattle.yew_laws.specs.SearchTree.{SearchTree, preorder}

-- the greatest worth of the members, and 0 where there is none
abbrev pub greatest_of : {N : Type 0} → (N → ℕ) → List (Member N) → ℕ
greatest_of worth [] = 0
greatest_of worth (m ∷ ms) = max (worth m.node) (greatest_of worth ms)

-- the path of the first member that has this worth
abbrev pub first_with : {N : Type 0} → (N → ℕ) → ℕ → List (Member N) → Option (List ℕ)
first_with worth w [] = None
first_with worth w (m ∷ ms) = if worth m.node == w then Some m.path else first_with worth w ms

module _ {N : Type 0} (t : SearchTree N) where
  -- the greatest worth in the tree
  abbrev pub greatest : ℕ
  greatest = greatest_of t.worth (preorder t)

  -- the first path in preorder that has the greatest worth; a worth of 0 is no answer
  abbrev pub first_best : Option (List ℕ)
  first_best = if greatest == 0 then None else first_with t.worth greatest (preorder t)

  -- some member of the tree has at least this worth
  abbrev pub Reach : ℕ → Type 0
  Reach target = Any (λ m. target ≤ t.worth m.node) (preorder t)

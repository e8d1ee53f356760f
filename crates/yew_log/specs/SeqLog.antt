-- The one log of a sequential search, by recursion on the tree.
use Rattle.std.specs.Prelude.{ℕ, zero, suc, List, [], ◌∷◌, ◌++◌, max, nat_le, if◌then◌else◌}
use Rattle.yew_laws.specs.SearchTree.{SearchTree}
use Rattle.yew_log.specs.Notes.{Note, taken, visited, cut, ended, visits, values, maximum}
use Rattle.yew_log.specs.Attained.{limit}
use Rattle.yew_log.specs.Items.{in_turn}

-- the greatest worth that these entries visit
abbrev pub visited_worth : List Note → ℕ
visited_worth notes = maximum (values (visits notes))

module _ {N : Type 0} (t : SearchTree N) (gap : ℕ) where
  -- the entries of a visited node and of all below it, where this worth was held before it
  abbrev pub visit_notes : ℕ → List ℕ → N → ℕ → List Note
  visit_notes zero path n held = visited path (t.worth n) held ∷ ended path ∷ []
  visit_notes (suc levels) path n held =
      visited path (t.worth n) held
      ∷ in_turn visited_worth (λ p c h. if nat_le (t.bound c) (limit gap h) then cut p (t.bound c) h ∷ [] else visit_notes levels p c h) path 0 (t.children n) (max held (t.worth n))
      ++ ended path ∷ []

  -- the log: the root is taken, and visited with all below it
  abbrev pub seq_log : List Note
  seq_log = taken [] ∷ visit_notes (t.rank t.root) [] t.root 0

-- What a sequential search has still to record.
use Rattle.std.specs.Prelude.{◌≡◌, ℕ, List, [], ◌∷◌, ◌++◌, max, nat_le, if◌then◌else◌}
use mathlib.Core.List.{reverse}
use Rattle.yew_laws.specs.SearchTree.{SearchTree}
use Rattle.yew_log.specs.Attained.{limit}
use Rattle.yew_log.specs.Items.{in_turn}
use Rattle.yew_log.specs.Notes.{Note, taken, cut, ended}
use Rattle.yew_log.specs.SeqLog.{visited_worth, visit_notes, seq_log}
use Rattle.yew_stack.specs.Levels.{LevelView}

module _ {N : Type 0} (t : SearchTree N) (gap : ℕ) where
  -- the entries of a child, which is cut or visited, where this worth is held
  abbrev pub child_notes : List ℕ → N → ℕ → List Note
  child_notes path node held =
      if nat_le (t.bound node) (limit gap held) then cut path (t.bound node) held ∷ [] else visit_notes t gap (t.rank node) path node held

  -- the entries of the children that a level has still to give, where this worth is held
  abbrev pub level_notes : LevelView N → ℕ → List Note
  level_notes level held = in_turn visited_worth child_notes level.parent level.given level.remaining held

  -- the entries that are still to come of these levels, the highest first, where this worth is held
  abbrev pub rest_notes : List (LevelView N) → ℕ → List Note
  rest_notes [] held = []
  rest_notes (level ∷ lower) held =
      let done = level_notes level held in
      done ++ ended level.parent ∷ rest_notes lower (max held (visited_worth done))

  -- the entries so far, behind the Taken entry of the root, and then those still to come of these levels, the lowest
  -- first, are the sequential log
  pub record IsInSequence (notes : List Note) (ls : List (LevelView N)) : Type 0 where
    pub is : seq_log t gap ≡ taken [] ∷ (notes ++ rest_notes (reverse ls) (visited_worth notes))

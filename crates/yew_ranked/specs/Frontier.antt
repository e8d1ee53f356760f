-- The one log of the walk above the depth of tasks, by recursion on the tree.
use Rattle.std.specs.Prelude.{ℕ, zero, suc, List, [], ◌∷◌, ◌++◌, map, max, nat_le, if◌then◌else◌}
use Rattle.yew_laws.specs.SearchTree.{SearchTree, numbered}
use Rattle.yew_log.specs.Items.{in_turn}
use Rattle.yew_log.specs.Notes.{Note, taken, visited, cut, spawned, ended}
use Rattle.yew_log.specs.Segment.{Segment, segment}
use Rattle.yew_log.specs.SeqLog.{visited_worth}

module _ {N : Type 0} (t : SearchTree N) where
  -- the entries of a visited node and of what lies below it, where this worth was held before it. The children of a node with no level between it and the tasks are spawned
  abbrev pub frontier_notes : ℕ → List ℕ → N → ℕ → List Note
  frontier_notes zero path n held = visited path (t.worth n) held ∷ (map spawned (numbered path 0 (t.children n)) ++ ended path ∷ [])
  frontier_notes (suc levels) path n held =
      visited path (t.worth n) held
      ∷ (in_turn visited_worth (λ p c h. if nat_le (t.bound c) h then cut p (t.bound c) h ∷ [] else frontier_notes levels p c h) path 0 (t.children n) (max held (t.worth n))
      ++ ended path ∷ [])

  -- the log: the root is taken, and what lies above the depth is visited or cut, with so many levels between the root and the tasks
  abbrev pub frontier_log : ℕ → List Note
  frontier_log levels = taken [] ∷ frontier_notes levels [] t.root 0

  -- the log as the one segment of the root
  abbrev pub frontier_segment : ℕ → Segment
  frontier_segment levels = segment [] (frontier_notes levels [] t.root 0)

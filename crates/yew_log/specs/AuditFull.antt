-- An audit that could not be kept: a log that had no room for its next entry.
use Rattle.std.specs.Prelude.{◌≡◌, ℕ, ◌<◌, ◌^◌, ◌⊎◌, List, [], ◌∷◌, ◌++◌, length, Some}
use Rattle.std.specs.List.{sum_by}
use Rattle.yew_laws.specs.SearchTree.{SearchTree, tree_paths}
use Rattle.yew_log.specs.Notes.{Note, path_of, path_numbers}
use Rattle.yew_log.specs.Groups.{Skeleton, sequential}
use Rattle.yew_log.specs.HeldValues.{HeldIsMaximum}
use Rattle.yew_log.specs.Lawful.{key_kind_of, IsBrokenLog}
use Rattle.yew_log.specs.Recording.{IsFull}
use Rattle.yew_log.specs.Segment.{AreOfTree, OneOfAKind}
use Rattle.yew_log.specs.SeqLog.{seq_log}

-- entries that no log that tells its entries has room for
abbrev pub MeetsLimits : List Note → Type 0
MeetsLimits notes = (2 ^ 18 < length notes) ⊎ (2 ^ 22 < path_numbers notes)

-- the log behind the answer that the audit is full, with its two numbers, in a search of so many workers; with the next entry, for which it has no room, its paths are still paths of the tree, and no path has two entries of a kind
pub record IsAuditFull {N : Type 0} (t : SearchTree N) (gap : ℕ) (skeleton : Skeleton) (workers entries numbers : ℕ) : Type 0 where
  pub notes : List Note
  pub next : Note
  pub full : IsFull (Some notes) (path_of next) entries numbers
  pub in_tree : AreOfTree t (notes ++ next ∷ [])
  pub one_of_a_kind : OneOfAKind (notes ++ next ∷ [])
  pub keeps : IsBrokenLog t gap (key_kind_of skeleton) notes
  pub alone : workers ≡ 1 → HeldIsMaximum notes
  pub sequential_next : skeleton ≡ sequential → (rest : List Note) × (seq_log t gap ≡ notes ++ next ∷ rest)

-- how many numbers these paths have together
abbrev pub path_lengths : List (List ℕ) → ℕ
path_lengths ps = sum_by (λ path. length path) ps

-- a tree of more than 2^16 nodes, or whose paths have more than 2^20 numbers together
abbrev pub IsLarge : {N : Type 0} → SearchTree N → Type 0
IsLarge t = (2 ^ 16 < length (tree_paths t)) ⊎ (2 ^ 20 < path_lengths (tree_paths t))

-- What the search of one worker leaves of its tree: the best visit, the sum and the log.
use Rattle.std.specs.Prelude.{◌≡◌, ℕ, ◌<◌, List, [], ◌∷◌, IfSome}
use Rattle.yew_kinds.specs.declared.kind.Kind.{Kind}
use Rattle.yew_kinds.specs.declared.kind.Kind.TheVariants.{Count, Best, Reach, Near}
use Rattle.yew_kinds.specs.Wrappers.{counted_tree, clipped_tree}
use Rattle.yew_laws.specs.SearchTree.{SearchTree}
use Rattle.yew_log.specs.AuditFull.{IsAuditFull}
use Rattle.yew_log.specs.Groups.{sequential}
use Rattle.yew_log.specs.SeqLog.{seq_log}
use Rattle.yew_log.specs.Totals.{no_totals, totals_after}
use Rattle.yew_walk.specs.declared.fault.SearchFault.{SearchFault}
use Rattle.yew_walk.specs.declared.fault.SearchFault.TheVariants.{Memory, AuditFull, TooManyTasks}
use Rattle.yew_walk.specs.LogViews.{LogView, IsWithin}

-- the tree that a search of a kind goes through
abbrev pub searched_tree : {N : Type 0} → SearchTree N → Kind → SearchTree N
searched_tree t Count = counted_tree t
searched_tree t Best = t
searched_tree t (Reach target) = clipped_tree t target
searched_tree t (Near gap) = t

-- no node is an answer, so no node is cut off
pub record NeverCuts {N : Type 0} (t : SearchTree N) : Type 0 where
  pub no_answer : (node : N) → t.worth node ≡ 0
  pub promising : (node : N) → 0 < t.bound node

module _ {N : Type 0} (t : SearchTree N) (gap : ℕ) where
  -- the log of the one worker is the sequential log, where it tells its entries, and has its totals
  pub record IsPlainLog (log : LogView) : Type 0 where
    pub told : IfSome log.told (λ notes. notes ≡ seq_log t gap)
    pub totals_are : log.totals ≡ totals_after no_totals (seq_log t gap)
    pub number_is : log.number ≡ 1
    pub within : IsWithin log.told

  -- there is one log, of the one worker
  abbrev pub HasPlainLog : {R : Type 0} → (R → LogView) → List R → Type 0
  HasPlainLog view [] = ⊥
  HasPlainLog view (log ∷ []) = IsPlainLog (view log)
  HasPlainLog view (log ∷ more ∷ others) = ⊥

  -- why the search was refused: memory ran out, or a log that tells its entries had no room for the next one
  abbrev pub IsPlainFault : Type 0 → SearchFault → Type 0
  IsPlainFault tells Memory = Unit {0}
  IsPlainFault tells (AuditFull worker entries numbers) = tells × ((worker ≡ 1) × IsAuditFull t gap sequential 1 entries numbers)
  IsPlainFault tells (TooManyTasks number) = ⊥

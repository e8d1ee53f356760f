-- What an ordered search finds, and why it is refused.
use Rattle.std.specs.Prelude.{◌≡◌, ℕ, ◌<◌, ◌≤◌, ◌^◌, List, [], Option, Some, None, map, length, option_and_then}
use Rattle.yew_crew.specs.CrewSearch.{HasCrewLogs}
use Rattle.yew_laws.specs.Fold.{Fold}
use Rattle.yew_laws.specs.PathValue.{PathValue}
use Rattle.yew_laws.specs.SearchTree.{SearchTree, at_path}
use Rattle.yew_log.specs.AuditFull.{IsAuditFull}
use Rattle.yew_log.specs.Groups.{in_order}
use Rattle.yew_log.specs.Items.{items_of}
use Rattle.yew_walk.specs.Hands.{incumbent_of, numbers_of}
use Rattle.yew_walk.specs.LogViews.{LogView}
use Rattle.yew_walk.specs.PlainSearch.{NeverCuts}
use Rattle.yew_walk.specs.declared.fault.SearchFault.{SearchFault}
use Rattle.yew_walk.specs.declared.fault.SearchFault.TheVariants.{Memory, AuditFull, TooManyTasks}
use Rattle.yew_walk.specs.declared.hand.Hand.{Hand}
use Rattle.yew_ranked.specs.RankedSearch.{IsFirstAnswer}

module _ {N : Type 0} (t : SearchTree N) (depth workers : ℕ) where
  -- Why an ordered search was refused: memory ran out; or the log of a worker, which tells its entries, had no room for the next one,
  -- and that is the first worker's where there are too many items; or there are more than 2^20 items, so that one would need the number 2^20
  abbrev pub IsOrderedFault : Type 0 → SearchFault → Type 0
  IsOrderedFault tells Memory = Unit {0}
  IsOrderedFault tells (AuditFull worker entries numbers) =
      tells × ((1 ≤ worker) × (worker ≤ workers) × (2 ^ 20 < length (items_of t depth) → worker ≡ 1) × IsAuditFull t 0 (in_order depth) workers entries numbers)
  IsOrderedFault tells (TooManyTasks number) = (number ≡ 2 ^ 20) × (2 ^ 20 < length (items_of t depth))

module _ {N S R : Type 0} (t : SearchTree N) (join : S → S → S) (none : S) (of : N → ℕ → S) (seen : R → LogView) (depth workers : ℕ) where
  -- What all workers have found together: the gathered hand's path is the first best one, with its key in the place of the worth; the logs are those of the whole search; and where nothing is cut the sum is the fold of the tree
  pub record IsOrderedFound (hand : Hand S) (logs : List R) : Type 0 where
    pub first : IsFirstAnswer t (incumbent_of hand)
    pub has_logs : (path : Option PathValue) → numbers_of path ≡ (incumbent_of hand).path
        → HasCrewLogs t 0 (in_order depth) workers (map seen logs) (option_and_then (λ (p : PathValue). at_path t p.numbers) path)
    pub sum_is : NeverCuts t → hand.sum ≡ Fold t join none of

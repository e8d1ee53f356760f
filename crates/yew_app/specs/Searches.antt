-- What was found, before its text is made.
use Rattle.std.specs.Prelude.{◌≡◌, ℕ, ◌≤◌, ◌^◌, List, [], ◌∷◌, map, Option}
use Rattle.yew_kinds.specs.declared.kind.Kind.{Kind}
use Rattle.yew_kinds.specs.Kinds.{gap_of}
use Rattle.yew_laws.specs.SearchTree.{SearchTree}
use Rattle.yew_log.specs.declared.entry.Totals.{Totals}
use Rattle.yew_log.specs.AuditFull.{IsAuditFull}
use Rattle.yew_log.specs.Totals.{no_totals, totals_sum}
use Rattle.yew_walk.specs.declared.fault.SearchFault.{SearchFault}
use Rattle.yew_walk.specs.declared.fault.SearchFault.TheVariants.{Memory, AuditFull, TooManyTasks}
use Rattle.yew_walk.specs.LogViews.{LogView}
use Rattle.yew_walk.specs.PlainSearch.{searched_tree, HasPlainLog}
use Rattle.yew_walk.specs.declared.search.Found.{Found}
use Rattle.yew_crew.specs.CrewSearch.{solution_of, IsCrewAnswer, HasCrewLogs}
use Rattle.yew_app.specs.declared.asked.Asked.{Asked}
use Rattle.yew_app.specs.Asks.{table_of, IsSequential, FindsFirst}
use Rattle.yew_app.specs.Meanings.{Meaning, searched}
use Rattle.yew_app.specs.Texts.{first_node, HasTooManyItems}

-- these totals, and others after them, all together
abbrev pub totals_from : Totals → List Totals → Totals
totals_from so_far [] = so_far
totals_from so_far (next ∷ totals) = totals_from (totals_sum so_far next) totals

-- the totals of all of these logs
abbrev pub joint_totals : List Totals → Totals
joint_totals totals = totals_from no_totals totals

-- What was found in a tree: an answer of the kind that is right for it, whose fold is given, and the logs of the workers that
-- were asked for. In preorder and with tasks in order it is what one worker finds in preorder, and in preorder the one log is
-- the sequential log.
pub record IsFound {N S R : Type 0} (t : SearchTree N) (fold : S) (kind : Kind) (asked : Asked) (view : R → LogView) (found : Found S R) : Type 0 where
  pub answer : IsCrewAnswer t fold kind found.answer
  pub logs : HasCrewLogs (searched_tree t kind) (gap_of kind) (table_of asked.skeleton) asked.workers (map view found.logs.items) (solution_of t found.answer)
  pub first : FindsFirst asked.skeleton → solution_of t found.answer ≡ first_node (searched_tree t kind) (gap_of kind)
  pub in_preorder : IsSequential asked.skeleton → HasPlainLog (searched_tree t kind) (gap_of kind) view found.logs.items
  pub few : ¬ HasTooManyItems (searched_tree t kind) asked.skeleton

-- why a search of this tree, with this gap, was refused: memory ran out, or the log of a worker, which tells its entries, had no room for the next one, or there are too many items
abbrev pub IsSearchFault : {N : Type 0} → SearchTree N → ℕ → Asked → Type 0 → SearchFault → Type 0
IsSearchFault t gap asked tells Memory = Unit {0}
IsSearchFault t gap asked tells (AuditFull worker entries numbers) =
    tells × (1 ≤ worker) × (worker ≤ asked.workers) × IsAuditFull t gap (table_of asked.skeleton) asked.workers entries numbers × (HasTooManyItems t asked.skeleton → worker ≡ 1)
IsSearchFault t gap asked tells (TooManyTasks number) = (number ≡ 2 ^ 20) × HasTooManyItems t asked.skeleton

module _ {X N R : Type 0} (m : Meaning X N) (asked : Asked) (instance : X) (view : R → LogView) where
  -- the right lines of a solution, and the logs of the search that found it
  pub record IsAnswered (lines : List ℕ) (logs : List R) : Type 0 where
    pub solution : Option N
    pub lines_are : lines ≡ m.lines instance solution
    pub right : m.IsRight instance lines
    pub logs_are : HasCrewLogs (searched m instance) (gap_of m.kind) (table_of asked.skeleton) asked.workers (map view logs) solution
    pub first : FindsFirst asked.skeleton → solution ≡ first_node (searched m instance) (gap_of m.kind)
    pub in_preorder : IsSequential asked.skeleton → HasPlainLog (searched m instance) (gap_of m.kind) view logs
    pub few : ¬ HasTooManyItems (searched m instance) asked.skeleton

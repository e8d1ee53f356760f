-- What a search by a crew answers, which logs it hands back, and why it is refused.
use Rattle.std.specs.Prelude.{◌≡◌, ℕ, suc, ◌≤◌, ◌↔◌, List, [], ◌∷◌, Option, Some, None, IsSome, IsNone, IfSome, IsSomeAnd, option_and_then}
use Rattle.yew_kinds.specs.declared.kind.Kind.{Kind}
use Rattle.yew_kinds.specs.declared.kind.Kind.TheVariants.{Count, Best, Reach, Near}
use Rattle.yew_kinds.specs.declared.kind.Answer as answers
use Rattle.yew_kinds.specs.declared.kind.Answer.TheVariants as answer
use Rattle.yew_laws.specs.Greatest.{greatest, Reach as Reached}
use Rattle.yew_laws.specs.PathValue.{PathValue}
use Rattle.yew_laws.specs.SearchTree.{SearchTree, at_path, worth_at}
use Rattle.yew_log.specs.AuditFull.{IsAuditFull}
use Rattle.yew_log.specs.Groups.{Skeleton}
use Rattle.yew_log.specs.Notes.{Note}
use Rattle.yew_log.specs.Totals.{no_totals, totals_after}
use Rattle.yew_log.specs.WholeSearch.{AreLogs}
use Rattle.yew_walk.specs.declared.fault.SearchFault.{SearchFault}
use Rattle.yew_walk.specs.declared.fault.SearchFault.TheVariants.{Memory, AuditFull, TooManyTasks}
use Rattle.yew_walk.specs.Answers.{IsNear}
use Rattle.yew_walk.specs.LogViews.{LogView}

module _ {N : Type 0} (t : SearchTree N) where
  -- the greatest worth, with a path whose node has it: there is none exactly where that worth is 0
  pub record IsGreatest (worth : ℕ) (path : Option PathValue) : Type 0 where
    pub worth_is : worth ≡ greatest t
    pub absent : IsNone path ↔ (worth ≡ 0)
    pub has_worth : IfSome path (λ p. worth_at t p.numbers ≡ Some worth)

  -- a path whose node has at least the target as its worth: there is one exactly where some node has
  pub record IsMeeting (target : ℕ) (path : Option PathValue) : Type 0 where
    pub exists : IsSome path ↔ Reached t target
    pub meets : IfSome path (λ p. IsSomeAnd (worth_at t p.numbers) (λ worth. target ≤ worth))

module _ {N S : Type 0} (t : SearchTree N) (fold : S) where
  -- the answer is of the kind, and right for the tree, whose fold is given. Which of several best nodes is named is not said
  abbrev pub IsCrewAnswer : Kind → answers.Answer S → Type 0
  IsCrewAnswer Count (answer.Count sum) = sum ≡ fold
  IsCrewAnswer Count (answer.Best worth path) = ⊥
  IsCrewAnswer Count (answer.Reach path) = ⊥
  IsCrewAnswer Best (answer.Count sum) = ⊥
  IsCrewAnswer Best (answer.Best worth path) = IsGreatest t worth path
  IsCrewAnswer Best (answer.Reach path) = ⊥
  IsCrewAnswer (Reach target) (answer.Count sum) = ⊥
  IsCrewAnswer (Reach target) (answer.Best worth path) = ⊥
  IsCrewAnswer (Reach target) (answer.Reach path) = IsMeeting t target path
  IsCrewAnswer (Near gap) (answer.Count sum) = ⊥
  IsCrewAnswer (Near gap) (answer.Best worth path) = IsNear t gap worth path
  IsCrewAnswer (Near gap) (answer.Reach path) = ⊥

-- the path that an answer names, if it names one
abbrev pub path_in : {S : Type 0} → answers.Answer S → Option PathValue
path_in (answer.Count sum) = None
path_in (answer.Best worth path) = path
path_in (answer.Reach path) = path

-- the node that an answer names, if it names one
abbrev pub solution_of : {N S : Type 0} → SearchTree N → answers.Answer S → Option N
solution_of t found = option_and_then (λ (p : PathValue). at_path t p.numbers) (path_in found)

-- the log of the worker of this number has these entries, where it tells them, and their totals
pub record IsLogOf (number : ℕ) (notes : List Note) (log : LogView) : Type 0 where
  pub told : IfSome log.told (λ entries. entries ≡ notes)
  pub totals_are : log.totals ≡ totals_after no_totals notes
  pub number_is : log.number ≡ number

-- these are the logs of the workers from this number on, in order
abbrev pub AreLogsOf : ℕ → List (List Note) → List LogView → Type 0
AreLogsOf number [] [] = Unit {0}
AreLogsOf number [] (log ∷ logs) = ⊥
AreLogsOf number (notes ∷ more) [] = ⊥
AreLogsOf number (notes ∷ more) (log ∷ logs) = IsLogOf number notes log × AreLogsOf (suc number) more logs

module _ {N : Type 0} (t : SearchTree N) (gap : ℕ) (skeleton : Skeleton) (workers : ℕ) where
  -- There are lawful logs of all workers, which place the whole tree, and of which one has visited the solution. Those that are handed back have their totals, and where they tell their entries they are these
  pub record HasCrewLogs (logs : List LogView) (solution : Option N) : Type 0 where
    pub entries : List (List Note)
    pub are_logs : AreLogs t gap skeleton workers entries solution
    pub each : AreLogsOf 1 entries logs

  -- why the search was refused: memory ran out, or the log of a worker, which tells its entries, had no room for the next one
  abbrev pub IsCrewFault : Type 0 → SearchFault → Type 0
  IsCrewFault tells Memory = Unit {0}
  IsCrewFault tells (AuditFull worker entries numbers) = tells × ((1 ≤ worker) × (worker ≤ workers) × IsAuditFull t gap skeleton workers entries numbers)
  IsCrewFault tells (TooManyTasks number) = ⊥

-- What contracts see of a worker's log, and what entries make of it.
use Rattle.std.specs.Prelude.{◌≡◌, ℕ, ◌≤◌, ◌^◌, List, [], ◌∷◌, ◌++◌, length, Option, IfSome}
use Rattle.std.specs.Option.{option_map}
use Rattle.yew_log.specs.declared.entry.Totals.{Totals}
use Rattle.yew_log.specs.declared.entry.What.{What}
use Rattle.yew_log.specs.declared.entry.What.TheVariants.{Taken, Visited, Cut, Spawned, Handed, Ended}
use Rattle.yew_log.specs.Notes.{Note, taken, visited, cut, spawned, handed, ended, path_numbers}
use Rattle.yew_log.specs.Recording.{note_of, IsFull}
use Rattle.yew_log.specs.Totals.{next_totals}
use Rattle.yew_walk.specs.declared.fault.SearchFault.{SearchFault}
use Rattle.yew_walk.specs.declared.fault.SearchFault.TheVariants.{Memory, AuditFull, TooManyTasks}

-- the entries of a log, where it tells them, how many of each kind there were, and the number of its worker
pub record LogView : Type 0 where
  pub told : Option (List Note)
  pub totals : Totals
  pub number : ℕ

abbrev pub log_view : Option (List Note) → Totals → ℕ → LogView
log_view told totals number = record { told = told; totals = totals; number = number }

-- the log with one more entry
abbrev pub noted : LogView → What → List ℕ → ℕ → ℕ → LogView
noted log what path first second = record log { told = option_map (λ notes. notes ++ note_of what path first second ∷ []) log.told; totals = next_totals log.totals what }

-- the log with these entries, one after another
abbrev pub log_after : LogView → List Note → LogView
log_after log [] = log
log_after log (taken path ∷ notes) = log_after (noted log Taken path 0 0) notes
log_after log (visited path worth held ∷ notes) = log_after (noted log Visited path worth held) notes
log_after log (cut path bound held ∷ notes) = log_after (noted log Cut path bound held) notes
log_after log (spawned path ∷ notes) = log_after (noted log Spawned path 0 0) notes
log_after log (handed path ∷ notes) = log_after (noted log Handed path 0 0) notes
log_after log (ended path ∷ notes) = log_after (noted log Ended path 0 0) notes

-- the log with an entry of one kind for each of these paths
abbrev pub all_noted : LogView → What → List (List ℕ) → LogView
all_noted log what [] = log
all_noted log what (path ∷ paths) = all_noted (noted log what path 0 0) what paths

-- entries that are told are within the limits of a log that tells its entries
abbrev pub IsWithin : Option (List Note) → Type 0
IsWithin told = IfSome told (λ notes. (length notes ≤ 2 ^ 18) × (path_numbers notes ≤ 2 ^ 22))

-- why an entry for a path is refused: memory ran out, or the log has no room for it
abbrev pub RefusesNote : LogView → List ℕ → SearchFault → Type 0
RefusesNote log path Memory = Unit {0}
RefusesNote log path (AuditFull worker entries numbers) = (worker ≡ log.number) × IsFull log.told path entries numbers
RefusesNote log path (TooManyTasks number) = ⊥

-- What a recorder makes of a call of `note`, and when it has no room.
use Rattle.std.specs.Prelude.{◌≡◌, ℕ, ◌+◌, ◌<◌, ◌≤◌, ◌^◌, ◌⊎◌, List, length, Option, Some, None, Ok, Err, Result}
use Rattle.yew_log.specs.declared.entry.What.{What}
use Rattle.yew_log.specs.declared.entry.What.TheVariants.{Taken, Visited, Cut, Spawned, Handed, Ended}
use Rattle.yew_log.specs.declared.entry.LogEnd.{LogEnd}
use Rattle.yew_log.specs.declared.entry.LogEnd.TheVariants.{Full, Memory}
use Rattle.yew_log.specs.Notes.{Note, taken, visited, cut, spawned, handed, ended, path_numbers}

-- the entry that a call of `note` is for; only a visit and a cut have numbers
abbrev pub note_of : What → List ℕ → ℕ → ℕ → Note
note_of Taken path first second = taken path
note_of Visited path first second = visited path first second
note_of Cut path first second = cut path first second
note_of Spawned path first second = spawned path
note_of Handed path first second = handed path
note_of Ended path first second = ended path

-- a list of entries takes one more: at most 2^18 entries, whose paths have at most 2^22 numbers together
pub record Fits (path : List ℕ) (notes : List Note) : Type 0 where
  pub entries : length notes < 2 ^ 18
  pub numbers : path_numbers notes + length path ≤ 2 ^ 22

-- a log that does not tell its entries always has room
abbrev pub HasRoom : Option (List Note) → List ℕ → Type 0
HasRoom None path = Unit {0}
HasRoom (Some notes) path = Fits path notes

-- a log without room, and the two numbers that say so, which are within its limits
pub record IsFull (told : Option (List Note)) (path : List ℕ) (entries numbers : ℕ) : Type 0 where
  pub notes : List Note
  pub are_told : told ≡ Some notes
  pub entries_are : entries ≡ length notes
  pub numbers_are : numbers ≡ path_numbers notes
  pub within : (entries ≤ 2 ^ 18) × (numbers ≤ 2 ^ 22)
  pub past : (2 ^ 18 ≤ entries) ⊎ (2 ^ 22 < numbers + length path)

-- a fact of the two numbers of the answer Full
abbrev pub IfFull : Result (Unit {0}) LogEnd → (ℕ → ℕ → Type 0) → Type 0
IfFull (Ok done) P = Unit {0}
IfFull (Err (Full entries numbers)) P = P entries numbers
IfFull (Err Memory) P = Unit {0}

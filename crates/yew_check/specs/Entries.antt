-- The line of an entry, and which entries a text may have.
use Rattle.std.specs.Prelude.{◌≡◌, ℕ, ◌≤◌, Bool, true, false, List, ◌∷◌, ◌++◌, ◌==◌, codes, decimal, if◌then◌else◌}
use Rattle.std.specs.List.{AllByRecursion}
use Rattle.yew_log.specs.AuditText.{path_text}
use Rattle.yew_log.specs.declared.entry.What.{What}
use Rattle.yew_log.specs.declared.entry.What.TheVariants.{Taken, Visited, Cut, Spawned, Handed, Ended}
use Rattle.yew_log.specs.Notes.{Note, taken, visited, cut, spawned, handed, ended}

-- the greatest number of a path, 2^32 - 2, and the greatest worth, bound and held value, 2^63 - 1
abbrev pub greatest_step : ℕ
greatest_step = 4294967294

abbrev pub greatest_value : ℕ
greatest_value = 9223372036854775807

-- a path whose numbers a text may have
abbrev pub IsPathWithin : List ℕ → Type 0
IsPathWithin path = AllByRecursion (λ k. k ≤ greatest_step) path

-- two numbers that a text may have where they are due, and 0 where they are not
abbrev pub AreValuesWithin : Bool → ℕ → ℕ → Type 0
AreValuesWithin true first second = (first ≤ greatest_value) × (second ≤ greatest_value)
AreValuesWithin false first second = (first ≡ 0) × (second ≡ 0)

-- a path, and two numbers where they are due, that a text may have
abbrev pub IsPlaceWithin : Bool → List ℕ → ℕ → ℕ → Type 0
IsPlaceWithin values path first second = IsPathWithin path × AreValuesWithin values first second

-- an entry whose numbers a text may have
abbrev pub IsWithin : Note → Type 0
IsWithin (taken path) = IsPathWithin path
IsWithin (visited path worth held) = IsPathWithin path × (worth ≤ greatest_value) × (held ≤ greatest_value)
IsWithin (cut path bound held) = IsPathWithin path × (bound ≤ greatest_value) × (held ≤ greatest_value)
IsWithin (spawned path) = IsPathWithin path
IsWithin (handed path) = IsPathWithin path
IsWithin (ended path) = IsPathWithin path

-- the slash before each number of a path
abbrev pub is_slash : ℕ → Bool
is_slash b = b == 47

-- the word of a kind of entry
abbrev pub kind_word : What → List ℕ
kind_word Taken = codes "take"
kind_word Visited = codes "visit"
kind_word Cut = codes "cut"
kind_word Spawned = codes "spawn"
kind_word Handed = codes "hand"
kind_word Ended = codes "end"

-- whether an entry of this kind has two numbers
abbrev pub has_values : What → Bool
has_values Taken = false
has_values Visited = true
has_values Cut = true
has_values Spawned = false
has_values Handed = false
has_values Ended = false

-- two numbers with a space between them
abbrev pub values_text : ℕ → ℕ → List ℕ
values_text first second = decimal first ++ 32 ∷ decimal second

-- a path, and two numbers where they are due
abbrev pub place_text : Bool → List ℕ → ℕ → ℕ → List ℕ
place_text values path first second = if values then path_text path ++ 32 ∷ values_text first second else path_text path

-- the line of an entry of this kind
abbrev pub entry_text : What → List ℕ → ℕ → ℕ → List ℕ
entry_text what path first second = kind_word what ++ 32 ∷ place_text (has_values what) path first second

-- the line of an entry, without its line feed
abbrev pub note_text : Note → List ℕ
note_text (taken path) = entry_text Taken path 0 0
note_text (visited path worth held) = entry_text Visited path worth held
note_text (cut path bound held) = entry_text Cut path bound held
note_text (spawned path) = entry_text Spawned path 0 0
note_text (handed path) = entry_text Handed path 0 0
note_text (ended path) = entry_text Ended path 0 0

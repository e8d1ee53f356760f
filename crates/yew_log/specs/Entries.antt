-- What contracts see of the entries of the code.
use Rattle.std.specs.Prelude.{List, map}
use Rattle.yew_log.specs.declared.entry.Entry.{Entry}
use Rattle.yew_log.specs.declared.entry.Entry.TheVariants.{Taken, Visited, Cut, Spawned, Handed, Ended}
use Rattle.yew_log.specs.Notes.{Note, taken, visited, cut, spawned, handed, ended}

-- one entry, its path as a list of numbers
abbrev pub entry_note : Entry → Note
entry_note (Taken path) = taken path.numbers
entry_note (Visited path worth held) = visited path.numbers worth held
entry_note (Cut path bound held) = cut path.numbers bound held
entry_note (Spawned path) = spawned path.numbers
entry_note (Handed path) = handed path.numbers
entry_note (Ended path) = ended path.numbers

-- all entries, in order
abbrev pub entry_notes : List Entry → List Note
entry_notes entries = map entry_note entries

-- What a shelf in memory is seen as.
use Rattle.std.specs.Prelude.{ℕ, ◌<◌, ◌≤◌, List, [], length, map, slice_index_or, Bool, Option, String, Vec, string_bytes}
use Rattle.std.specs.declared.alloc.Global.{Global}
use Rattle.yew_io.specs.Shelf.{File}

-- a shelf in memory: its files, the numbers of the calls that fail, how many calls and faults there were, the name that
-- was opened last, what is left of the open file, and whether the last call failed
pub record ShelfState : Type 0 where
  pub files : List File
  pub fails : List ℕ
  pub calls : ℕ
  pub faults : ℕ
  pub name : Option (List ℕ)
  pub left : Option (List ℕ)
  pub failed : Bool

-- the file that a pair of a name and bytes stands for
abbrev pub file_of : String Global × Vec ℕ Global → File
file_of pair = record { name = string_bytes pair.0; bytes = pair.1.items }

-- the files that a list of pairs stands for
abbrev pub files_of : List (String Global × Vec ℕ Global) → List File
files_of pairs = map file_of pairs

-- the bytes of the file at this index
abbrev pub bytes_at : List File → ℕ → List ℕ
bytes_at files index = (slice_index_or files index (record { name = []; bytes = [] })).bytes

-- there is a file at this index, and it has at least so many bytes
pub record IsPlace (files : List File) (index at : ℕ) : Type 0 where
  pub there : index < length files
  pub within : at ≤ length (bytes_at files index)

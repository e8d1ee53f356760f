-- A position in a text, from which it is read on.
use Rattle.std.specs.Prelude.{◌≡◌, ℕ, ◌+◌, ◌≤◌, List, length, take, drop, count_by}
use Rattle.yew_text.specs.Words.{is_newline, Line, TextWord, lines_from, words_from}
use Rattle.yew_text.specs.Fields.{FieldAt, fields_from}

-- the bytes of the text, the place reached in them, and the line of that place
pub record Position : Type 0 where
  pub bytes : List ℕ
  pub place : ℕ
  pub line : ℕ

-- the line of a place: 1 and the line feeds before it
pub record IsPosition (at : Position) : Type 0 where
  pub within : at.place ≤ length at.bytes
  pub line_is : at.line ≡ 1 + count_by is_newline (take at.place at.bytes)

abbrev pub position_in : List ℕ → ℕ → ℕ → Position
position_in bytes place line = record { bytes = bytes; place = place; line = line }

-- before the first byte
abbrev pub start_of : List ℕ → Position
start_of bytes = position_in bytes 0 1

-- another place in the same text
abbrev pub moved : Position → ℕ → ℕ → Position
moved at place line = position_in at.bytes place line

-- the bytes from here on; their lines, the rest of this line being the first; their words; and their fields
abbrev pub bytes_left : Position → List ℕ
bytes_left at = drop at.place at.bytes

abbrev pub lines_left : Position → List Line
lines_left at = lines_from at.line (bytes_left at)

abbrev pub words_left : Position → List TextWord
words_left at = words_from at.line (bytes_left at)

abbrev pub fields_left : Position → List FieldAt
fields_left at = fields_from at.line (bytes_left at)

-- the same text
abbrev pub SameText : Position → Position → Type 0
SameText old new = old.bytes ≡ new.bytes

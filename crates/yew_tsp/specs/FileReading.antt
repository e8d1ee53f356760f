-- The reading of a file of tours as a function on its lines and words.
use Rattle.std.specs.Prelude.{ℕ, List, [], ◌∷◌, ◌++◌, Option, Some, None, Result, Ok, Err, nat_le, nat_lt, bytes_eq, codes, if◌then◌else◌}
use Rattle.std.specs.List.{list_all}
use Rattle.yew_text.specs.declared.text.TextKind.{TextKind}
use Rattle.yew_text.specs.declared.text.TextKind.TheVariants.{NotNumber, TooBig, EndsEarly, BadLine}
use Rattle.yew_text.specs.Words.{is_nonempty, end_line}
use Rattle.yew_text.specs.Numbers.{value_of, greatest, Fault}
use Rattle.yew_text.specs.Fields.{TextField, FieldAt, fields_of}
use Rattle.yew_text.specs.Grammar.{read_from}
use Rattle.yew_tsp.specs.declared.header.Key.{Key}
use Rattle.yew_tsp.specs.declared.header.Key.TheVariants.{DataType, Dimension, WeightType, WeightFormat}
use Rattle.yew_tsp.specs.declared.header.Format.{Format}
use Rattle.yew_tsp.specs.Files.{Contents}
use Rattle.yew_tsp.specs.Headers.{required, Header}
use Rattle.yew_tsp.specs.Keys.{key_word, section_word, format_word, first_word, is_number, is_given, is_repeated, value_at, every_key, every_format, named}
use Rattle.yew_tsp.specs.Matrices.{matrix_words, matrix_end, matrix_shape}

-- the fault of a value
abbrev pub format_fault : Option Format → Option TextKind
format_fault (Some format) = None
format_fault None = Some BadLine

abbrev pub dimension_fault : List ℕ → Option TextKind
dimension_fault value = if is_number value then (if nat_le (value_of value) greatest then (if nat_lt (value_of value) 2 then Some BadLine else None) else Some TooBig) else Some NotNumber

abbrev pub value_fault : Key → List ℕ → Option TextKind
value_fault DataType value = if bytes_eq (codes "TSP") (first_word value) then None else (if bytes_eq (codes "ATSP") (first_word value) then None else Some BadLine)
value_fault Dimension value = dimension_fault value
value_fault WeightType value = if bytes_eq (codes "EXPLICIT") value then None else Some BadLine
value_fault WeightFormat value = format_fault (named format_word every_format value)
value_fault _ value = None

-- a line is an entry, or the section's line, or offends
pub data Judged : Type 0 where
  Entry : Judged
  Section : Judged
  Offends : TextKind → Judged

abbrev pub judge_value : Option TextKind → Judged
judge_value None = Entry
judge_value (Some kind) = Offends kind

abbrev pub judge_key : List TextField → TextField → Option Key → Judged
judge_key given field None = Offends BadLine
judge_key given field (Some key) = if field.colon then (if is_repeated given key then Offends BadLine else judge_value (value_fault key field.value)) else Offends BadLine

abbrev pub judge_section : List TextField → TextField → Judged
judge_section given field = if is_nonempty field.value then Offends BadLine else (if list_all (is_given given) required then Section else Offends BadLine)

abbrev pub judge_field : List TextField → TextField → Judged
judge_field given field = if bytes_eq (codes "EOF") field.key then Offends EndsEarly else (if bytes_eq section_word field.key then judge_section given field else judge_key given field (named key_word every_key field.key))

abbrev pub header_on : List TextField → FieldAt → Judged → (List TextField → Result Header Fault) → Result Header Fault
header_on given at Entry rest = rest (given ++ at.field ∷ [])
header_on given at Section rest = Ok (record { given = given; section = at })
header_on given at (Offends kind) rest = Err (record { kind = kind; line = at.field.line })

-- the lines before the section, or the first offence among them
unfoldable pub read_header : ℕ → List TextField → List FieldAt → Result Header Fault
read_header end given [] = Err (record { kind = EndsEarly; line = end })
read_header end given (at ∷ ats) = header_on given at (judge_field given at.field) (λ more. read_header end more ats)

-- the matrix behind the section's line
abbrev pub with_numbers : ℕ → Format → Result (List ℕ) Fault → Result Contents Fault
with_numbers cities format (Ok numbers) = Ok (record { cities = cities; format = format; numbers = numbers })
with_numbers cities format (Err fault) = Err fault

abbrev pub cities_in : Header → ℕ
cities_in header = value_of (value_at header.given Dimension)

-- a header has a format, so the second case does not come
abbrev pub read_matrix : ℕ → Header → Option Format → Result Contents Fault
read_matrix end header (Some format) = with_numbers (cities_in header) format (read_from (matrix_shape format (cities_in header)) (matrix_end end header.section.behind) [] (matrix_words header.section.behind))
read_matrix end header None = Err (record { kind = BadLine; line = header.section.field.line })

abbrev pub read_behind : ℕ → Result Header Fault → Result Contents Fault
read_behind end (Ok header) = read_matrix end header (named format_word every_format (value_at header.given WeightFormat))
read_behind end (Err fault) = Err fault

-- The file, or its first offence.
abbrev pub read_tours : List ℕ → Result Contents Fault
read_tours bytes = read_behind (end_line bytes) (read_header (end_line bytes) [] (fields_of bytes))

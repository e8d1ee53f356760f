-- What the parts of a reading of a file of tours answer.
use Rattle.std.specs.Prelude.{◌≡◌, ℕ, true, false, List, [], ◌∷◌, ◌++◌, length, flat_map, Option, Some, None, Result, Ok, Err, MatchOption, MatchResult, slice_index_or}
use Rattle.std.specs.Option.{option_map}
use Rattle.yew_text.specs.declared.text.TextKind.{TextKind}
use Rattle.yew_text.specs.declared.text.TextKind.TheVariants.{Surplus}
use Rattle.yew_text.specs.declared.text.TextFault.{TextFault}
use Rattle.yew_text.specs.declared.text.FileEnd.{FileEnd}
use Rattle.yew_text.specs.declared.text.FileEnd.TheVariants.{Refused, TooLarge, Memory}
use Rattle.yew_text.specs.Fields.{TextField}
use Rattle.yew_text.specs.Numbers.{value_of, Fault, first_number}
use Rattle.yew_text.specs.Position.{Position, words_left, fields_left}
use Rattle.yew_text.specs.Reading.{Gives, text_fault}
use Rattle.yew_text.specs.Words.{TextWord, words_in, end_line}
use Rattle.yew_text.specs.Grammar.{Shape, Limited, first_past, read_from}
use Rattle.yew_tsp.specs.declared.header.Key.{Key}
use Rattle.yew_tsp.specs.declared.header.Key.TheVariants.{Name, Comment, DataType, Dimension, WeightType, WeightFormat, DisplayType, CoordType}
use Rattle.yew_tsp.specs.declared.header.Format.{Format}
use Rattle.yew_tsp.specs.declared.header.Given.{Given}
use Rattle.yew_tsp.specs.declared.header.LineIs.{LineIs}
use Rattle.yew_tsp.specs.declared.header.LineIs.TheVariants as lines
use Rattle.yew_tsp.specs.declared.header.Specification.{Specification}
use Rattle.yew_tsp.specs.declared.reading.Past.{Past}
use Rattle.yew_tsp.specs.FileReading.{value_fault, dimension_fault, Entry, Section, Offends, judge_key, judge_section, judge_field, read_header}
use Rattle.yew_tsp.specs.Files.{contents_limits}
use Rattle.yew_tsp.specs.Headers.{Header}
use Rattle.yew_tsp.specs.Keys.{key_word, format_word, is_given, value_at, every_key, every_format, named}
use Rattle.yew_tsp.specs.Matrices.{is_ending, before_ending, ending_line, matrix_count, matrix_shape}

-- the place of a key in a row of all keys
abbrev pub index_of : Key → ℕ
index_of Name = 0
index_of Comment = 1
index_of DataType = 2
index_of Dimension = 3
index_of WeightType = 4
index_of WeightFormat = 5
index_of DisplayType = 6
index_of CoordType = 7

-- ---- the specification part

-- a value as the number of cities, or its fault
abbrev pub GivesDimension : Result ℕ TextKind → List ℕ → Type 0
GivesDimension (Ok n) value = (dimension_fault value ≡ None) × (n ≡ value_of value)
GivesDimension (Err kind) value = dimension_fault value ≡ Some kind

-- What is kept of the lines so far: which keys were given, and the values of two of them.
pub record AreGiven (given : List TextField) (state : Given) : Type 0 where
  pub long : length state.keys ≡ 8
  pub each : (key : Key) → slice_index_or state.keys (index_of key) false ≡ is_given given key
  pub dimension : MatchOption state.cities (is_given given Dimension ≡ false) (λ n. (is_given given Dimension ≡ true) × (n ≡ value_of (value_at given Dimension)))
  pub weight_format : MatchOption state.format (is_given given WeightFormat ≡ false) (λ f. (is_given given WeightFormat ≡ true) × (named format_word every_format (value_at given WeightFormat) ≡ Some f))

abbrev pub kept_cities : Option ℕ → Key → List ℕ → Option ℕ
kept_cities old Dimension value = Some (value_of value)
kept_cities old _ value = old

abbrev pub kept_format : Option Format → Key → List ℕ → Option Format
kept_format old WeightFormat value = named format_word every_format value
kept_format old _ value = old

-- A value is accepted and kept.
pub record KeepsValue (old : Given) (key : Key) (value : List ℕ) (new : Given) : Type 0 where
  pub accepted : value_fault key value ≡ None
  pub same_keys : new.keys ≡ old.keys
  pub cities_are : new.cities ≡ kept_cities old.cities key value
  pub format_is : new.format ≡ kept_format old.format key value

abbrev pub Accepts : {A : Type 0} → Given → Key → List ℕ → Result A TextKind → Given → Type 0
Accepts old key value answer new = MatchResult answer (λ _. KeepsValue old key value new) (λ kind. value_fault key value ≡ Some kind)

-- an entry is judged, and kept where it is one
abbrev pub JudgesEntry : {A : Type 0} → List TextField → TextField → Result A TextKind → Given → Type 0
JudgesEntry given field answer new =
    MatchResult answer (λ _. (judge_key given field (named key_word every_key field.key) ≡ Entry) × AreGiven (given ++ field ∷ []) new)
    (λ kind. judge_key given field (named key_word every_key field.key) ≡ Offends kind)

-- what the lines before the section say
pub record SaysAll (given : List TextField) (said : Specification) : Type 0 where
  pub cities_are : said.cities ≡ value_of (value_at given Dimension)
  pub format_is : named format_word every_format (value_at given WeightFormat) ≡ Some said.format

-- the section's line is judged
abbrev pub JudgesSection : List TextField → TextField → Result Specification TextKind → Type 0
JudgesSection given field answer =
    MatchResult answer (λ said. (judge_section given field ≡ Section) × SaysAll given said) (λ kind. judge_section given field ≡ Offends kind)

abbrev pub JudgesLine : List TextField → TextField → LineIs → Given → Type 0
JudgesLine given field lines.Entry new = (judge_field given field ≡ Entry) × AreGiven (given ++ field ∷ []) new
JudgesLine given field (lines.Section said) new = (judge_field given field ≡ Section) × SaysAll given said

-- a line is judged
abbrev pub Judges : List TextField → TextField → Result LineIs TextKind → Given → Type 0
Judges given field answer new = MatchResult answer (λ line. JudgesLine given field line new) (λ kind. judge_field given field ≡ Offends kind)

-- The specification part was read: behind its section's line stand the words of the matrix.
pub record HeaderRead (old : Position) (said : Specification) (new : Position) : Type 0 where
  pub header : Header
  pub is : read_header (end_line old.bytes) [] (fields_left old) ≡ Ok header
  pub says : SaysAll header.given said
  pub words : words_left new ≡ flat_map words_in header.section.behind

abbrev pub ReadsHeader : Position → Result Specification TextFault → Position → Type 0
ReadsHeader old answer new = MatchResult answer (λ said. HeaderRead old said new) (λ f. read_header (end_line old.bytes) [] (fields_left old) ≡ Err (text_fault f))

-- ---- the matrix

-- The next word was read as a number of the matrix.
pub record TakesMatrixNumber (old : Position) (answer : Result ℕ TextFault) (new : Position) : Type 0 where
  pub gives : Gives answer (first_number (ending_line (end_line old.bytes) (words_left old)) (before_ending (words_left old)))
  pub taken : MatchResult answer (λ n. (word : TextWord) × (words_left old ≡ word ∷ words_left new) × (is_ending word ≡ false)) (λ f. Unit {0})

-- a word of the matrix that is a surplus
pub record IsMatrixSurplus (at : Position) (f : TextFault) : Type 0 where
  pub word : TextWord
  pub more : List TextWord
  pub words : before_ending (words_left at) ≡ word ∷ more
  pub fault_is : text_fault f ≡ record { kind = Surplus; line = word.line }

-- no word of the matrix is left, or the next one is a surplus
abbrev pub EndsMatrix : {A : Type 0} → Position → Result A TextFault → Type 0
EndsMatrix at answer = MatchResult answer (λ _. before_ending (words_left at) ≡ []) (λ f. IsMatrixSurplus at f)

-- the reading of the matrix from these numbers on, with the words that are left at a position
abbrev pub matrix_reading : Shape → List ℕ → Position → Result (List ℕ) Fault
matrix_reading shape numbers at = read_from shape (ending_line (end_line at.bytes) (words_left at)) numbers (before_ending (words_left at))

-- a number past its limit, as a number with its limit
abbrev pub limited : Past → Limited
limited past = record { number = past.number; limit = past.limit }

-- the first of two that is there
abbrev pub first_of : Option Limited → Option Limited → Option Limited
first_of (Some l) other = Some l
first_of None other = other

-- One more number is kept while no number is past its limit.
pub record KeepsNumber (old : List ℕ) (past : Option Past) (number : ℕ) (new : List ℕ) (after : Option Past) : Type 0 where
  pub past_is : option_map limited after ≡ first_of (option_map limited past) (first_past (record { number = number; limit = 2147483647 } ∷ []))
  pub kept : after ≡ None → new ≡ old ++ number ∷ []

-- The numbers of the matrix were read up to here: the reading goes on behind them, the first number past its limit is
-- known, and as long as there is none the numbers are kept.
pub record SomeNumbers (old : Position) (said : Specification) (count : ℕ) (kept : List ℕ) (past : Option Past) (new : Position) : Type 0 where
  pub numbers : List ℕ
  pub goes_on : matrix_reading (matrix_shape said.format said.cities) [] old ≡ matrix_reading (matrix_shape said.format said.cities) numbers new
  pub count_is : length numbers ≡ count
  pub past_is : option_map limited past ≡ first_past (contents_limits (record { cities = said.cities; format = said.format; numbers = numbers }))
  pub kept_are : past ≡ None → kept ≡ numbers

-- all numbers of the matrix were read
abbrev pub NumbersRead : Position → Specification → List ℕ → Option Past → Position → Type 0
NumbersRead old said kept past new = SomeNumbers old said (matrix_count said.format said.cities) kept past new

-- The reading of the numbers ends with a fault, unless memory ran out.
abbrev pub EndsNumbers : Position → Specification → FileEnd → Type 0
EndsNumbers old said (Refused fault) = matrix_reading (matrix_shape said.format said.cities) [] old ≡ Err (text_fault fault)
EndsNumbers old said (TooLarge number limit) = ⊥
EndsNumbers old said Memory = Unit {0}

-- The keys of a file of tours, and which values each may have.
use Rattle.std.specs.Prelude.{◌≡◌, ◌≢◌, ℕ, ◌<◌, ◌≤◌, Bool, true, false, ◌&&◌, ◌⊎◌, List, [], ◌∷◌, Option, find, IsTrue, IsFalse, bytes_eq, codes, if◌then◌else◌}
use Rattle.std.specs.List.{before_first}
use Rattle.yew_text.specs.declared.text.TextKind.{TextKind}
use Rattle.yew_text.specs.declared.text.TextKind.TheVariants.{NotNumber, TooBig, BadLine}
use Rattle.yew_text.specs.Words.{is_white, is_nonempty}
use Rattle.yew_text.specs.Numbers.{is_digits, value_of, greatest}
use Rattle.yew_text.specs.Fields.{TextField}
use Rattle.yew_tsp.specs.declared.header.Key.{Key}
use Rattle.yew_tsp.specs.declared.header.Key.TheVariants.{Name, Comment, DataType, Dimension, WeightType, WeightFormat, DisplayType, CoordType}
use Rattle.yew_tsp.specs.declared.header.Format.{Format}
use Rattle.yew_tsp.specs.declared.header.Format.TheVariants.{FullMatrix, UpperRow, LowerRow, UpperDiagRow, LowerDiagRow}

abbrev pub key_word : Key → List ℕ
key_word Name = codes "NAME"
key_word Comment = codes "COMMENT"
key_word DataType = codes "TYPE"
key_word Dimension = codes "DIMENSION"
key_word WeightType = codes "EDGE_WEIGHT_TYPE"
key_word WeightFormat = codes "EDGE_WEIGHT_FORMAT"
key_word DisplayType = codes "DISPLAY_DATA_TYPE"
key_word CoordType = codes "NODE_COORD_TYPE"

-- the key of the line behind which the matrix begins
abbrev pub section_word : List ℕ
section_word = codes "EDGE_WEIGHT_SECTION"

abbrev pub format_word : Format → List ℕ
format_word FullMatrix = codes "FULL_MATRIX"
format_word UpperRow = codes "UPPER_ROW"
format_word LowerRow = codes "LOWER_ROW"
format_word UpperDiagRow = codes "UPPER_DIAG_ROW"
format_word LowerDiagRow = codes "LOWER_DIAG_ROW"

abbrev pub first_word : List ℕ → List ℕ
first_word value = before_first is_white value

-- one word of digits
abbrev pub is_number : List ℕ → Bool
is_number value = is_nonempty value && is_digits value

-- the values that a key may have
abbrev pub IsAccepted : Key → List ℕ → Type 0
IsAccepted DataType value = (first_word value ≡ codes "TSP") ⊎ (first_word value ≡ codes "ATSP")
IsAccepted Dimension value = IsTrue (is_number value) × (2 ≤ value_of value) × (value_of value ≤ greatest)
IsAccepted WeightType value = value ≡ codes "EXPLICIT"
IsAccepted WeightFormat value = (format : Format) × (value ≡ format_word format)
IsAccepted _ value = Unit {0}

-- the others, with the kind of their fault
abbrev pub IsBadValue : Key → List ℕ → TextKind → Type 0
IsBadValue DataType value BadLine = (first_word value ≢ codes "TSP") × (first_word value ≢ codes "ATSP")
IsBadValue Dimension value NotNumber = IsFalse (is_number value)
IsBadValue Dimension value TooBig = IsTrue (is_number value) × (greatest < value_of value)
IsBadValue Dimension value BadLine = IsTrue (is_number value) × (value_of value < 2)
IsBadValue WeightType value BadLine = value ≢ codes "EXPLICIT"
IsBadValue WeightFormat value BadLine = (format : Format) → value ≢ format_word format
IsBadValue _ value _ = ⊥

-- whether a key stands in these lines, and with which value
abbrev pub has_key : Key → TextField → Bool
has_key key field = bytes_eq (key_word key) field.key

abbrev pub is_given : List TextField → Key → Bool
is_given [] key = false
is_given (field ∷ fields) key = if has_key key field then true else is_given fields key

abbrev pub value_at : List TextField → Key → List ℕ
value_at [] key = []
value_at (field ∷ fields) key = if has_key key field then field.value else value_at fields key

-- a key that may not stand again
abbrev pub is_repeated : List TextField → Key → Bool
is_repeated given Comment = false
is_repeated given key = is_given given key

abbrev pub every_key : List Key
every_key = Name ∷ Comment ∷ DataType ∷ Dimension ∷ WeightType ∷ WeightFormat ∷ DisplayType ∷ CoordType ∷ []

abbrev pub every_format : List Format
every_format = FullMatrix ∷ UpperRow ∷ LowerRow ∷ UpperDiagRow ∷ LowerDiagRow ∷ []

-- the one of these that a word names
abbrev pub named : {A : Type 0} → (A → List ℕ) → List A → List ℕ → Option A
named word_of names word = find (λ name. bytes_eq (word_of name) word) names

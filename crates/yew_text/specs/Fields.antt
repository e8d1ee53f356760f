-- Lines as keys and values.
use Rattle.std.specs.Prelude.{ℕ, ◌-◌, Bool, false, ◌||◌, List, [], ◌∷◌, length, take, drop, ◌==◌, if◌then◌else◌}
use Rattle.std.specs.List.{list_all, before_first, prefix_len, suffix_len}
use Rattle.yew_text.specs.Words.{is_white, Line, lines_from}

-- without the white space in front, without that at the end, and without both
abbrev pub trim_start : List ℕ → List ℕ
trim_start text = drop (prefix_len is_white text) text

abbrev pub trim_end : List ℕ → List ℕ
trim_end text = take (length text - suffix_len is_white text) text

abbrev pub trim : List ℕ → List ℕ
trim text = trim_end (trim_start text)

-- a line as a key and a value, and whether a colon stands between the two
pub record TextField : Type 0 where
  pub key : List ℕ
  pub value : List ℕ
  pub colon : Bool
  pub line : ℕ

-- the key ends at white space or a colon
abbrev pub ends_key : ℕ → Bool
ends_key b = is_white b || b == 58

-- the key at the front of a text
abbrev pub key_of : List ℕ → List ℕ
key_of text = before_first ends_key text

-- what stands behind the key, from the first byte that is no white space on
abbrev pub behind_key : List ℕ → List ℕ
behind_key text = trim_start (drop (length (key_of text)) text)

-- whether a text begins with a colon, and what stands behind the colon or, without one, the text itself
abbrev pub begins_with_colon : List ℕ → Bool
begins_with_colon [] = false
begins_with_colon (b ∷ bs) = b == 58

abbrev pub behind_colon : List ℕ → List ℕ
behind_colon [] = []
behind_colon (b ∷ bs) = if b == 58 then bs else b ∷ bs

-- The field that a text without white space in front is: its key, and as its value what stands behind the key
-- and behind the colon where one follows the key.
abbrev pub field_at : ℕ → List ℕ → TextField
field_at n text = record { key = key_of text; value = trim (behind_colon (behind_key text)); colon = begins_with_colon (behind_key text); line = n }

abbrev pub field_of : Line → TextField
field_of line = field_at line.number (trim_start line.text)

-- a line of nothing but white space
abbrev pub is_blank : Line → Bool
is_blank line = list_all is_white line.text

-- a line that is not blank as a field, with the lines that follow it
pub record FieldAt : Type 0 where
  pub field : TextField
  pub behind : List Line

-- each line that is not blank, as a field
abbrev pub fields_in : List Line → List FieldAt
fields_in [] = []
fields_in (line ∷ lines) = if is_blank line then fields_in lines else record { field = field_of line; behind = lines } ∷ fields_in lines

-- the fields of a text whose first line has the number n
abbrev pub fields_from : ℕ → List ℕ → List FieldAt
fields_from n bytes = fields_in (lines_from n bytes)

-- the fields of a whole file
abbrev pub fields_of : List ℕ → List FieldAt
fields_of bytes = fields_from 1 bytes

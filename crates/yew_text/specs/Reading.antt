-- What one reading of a word, a number, a field or the end does to a position.
use Rattle.std.specs.Prelude.{◌≡◌, ℕ, ◌+◌, Bool, not, List, [], ◌∷◌, length, flat_map, Option, Result, Ok, Err, MatchOption, MatchResult}
use Rattle.std.specs.List.{prefix_len}
use Rattle.yew_text.specs.declared.text.TextKind.TheVariants.{Surplus}
use Rattle.yew_text.specs.declared.text.Word.{Word}
use Rattle.yew_text.specs.declared.text.Field.{Field}
use Rattle.yew_text.specs.declared.text.TextFault.{TextFault}
use Rattle.yew_text.specs.Words.{is_white, is_newline, Line, TextWord, words_in, end_line}
use Rattle.yew_text.specs.Numbers.{Fault, first_number}
use Rattle.yew_text.specs.Fields.{TextField, fields_in}
use Rattle.yew_text.specs.Position.{Position, IsPosition, moved, bytes_left, lines_left, words_left, fields_left}

-- a byte of a word, and a byte of a line
abbrev pub in_word : ℕ → Bool
in_word b = not (is_white b)

abbrev pub in_line : ℕ → Bool
in_line b = not (is_newline b)

-- a word, a field and a fault, without where they lie in memory
abbrev pub text_word : Word → TextWord
text_word w = record { text = w.text.now; line = w.line }

abbrev pub text_field : Field → TextField
text_field f = record { key = f.key.now; value = f.value.now; colon = f.colon; line = f.line }

abbrev pub text_fault : TextFault → Fault
text_fault f = record { kind = f.kind; line = f.line }

-- ---- words

-- The next word was read: behind it are the other words, and the place is right behind its last byte, in its line.
pub record PassesWord (old : Position) (word : TextWord) (new : Position) : Type 0 where
  pub words : words_left old ≡ word ∷ words_left new
  pub line : new.line ≡ word.line
  pub place : new.place ≡ old.place + prefix_len is_white (bytes_left old) + length word.text

-- There is no word only where none is left, and then nothing moves.
abbrev pub TakesWord : Position → Option TextWord → Position → Type 0
TakesWord old word new = MatchOption word ((words_left old ≡ []) × (new ≡ old)) (λ w. PassesWord old w new)

-- The next word from a position on, with the place behind it.
pub record FindsWord (at : Position) (word : TextWord) (place : ℕ) : Type 0 where
  pub reached : IsPosition (moved at place word.line)
  pub passed : PassesWord at word (moved at place word.line)

-- No word is left, and this is the line of the end.
pub record FindsEnd (at : Position) (end : ℕ) : Type 0 where
  pub none : words_left at ≡ []
  pub line : end ≡ end_line at.bytes

-- ---- fields

-- What is left stands behind a line: these lines, and none at the end of the text.
abbrev pub AreBehind : List Line → Position → Type 0
AreBehind [] at = bytes_left at ≡ []
AreBehind (line ∷ lines) at = lines_left at ≡ line ∷ lines

-- The next line that is not blank was read: what is left are the lines behind it, with their words and their fields.
pub record PassesField (old : Position) (field : TextField) (new : Position) : Type 0 where
  pub behind : List Line
  pub fields : fields_left old ≡ record { field = field; behind = behind } ∷ fields_in behind
  pub lines : AreBehind behind new
  pub fields_are : fields_left new ≡ fields_in behind
  pub words_are : words_left new ≡ flat_map words_in behind

-- There is no field only where none is left, and then nothing moves.
abbrev pub TakesField : Position → Option TextField → Position → Type 0
TakesField old field new = MatchOption field ((fields_left old ≡ []) × (new ≡ old)) (λ f. PassesField old f new)

-- The next line that is not blank, with the position behind it.
pub record FindsField (at : Position) (field : TextField) (new : Position) : Type 0 where
  pub reached : IsPosition new
  pub passed : PassesField at field new

-- ---- numbers, and the end

-- a number or a fault as the function on words gives it
abbrev pub Gives : Result ℕ TextFault → Result ℕ Fault → Type 0
Gives (Ok n) read = read ≡ Ok n
Gives (Err f) read = read ≡ Err (text_fault f)

-- The next word was read as a number. A fault leaves the place as it was.
pub record TakesNumber (old : Position) (answer : Result ℕ TextFault) (new : Position) : Type 0 where
  pub gives : Gives answer (first_number (end_line old.bytes) (words_left old))
  pub taken : MatchResult answer (λ n. (word : TextWord) × PassesWord old word new) (λ f. new ≡ old)

-- The next word is a surplus.
pub record IsSurplus (at : Position) (f : TextFault) : Type 0 where
  pub word : TextWord
  pub more : List TextWord
  pub words : words_left at ≡ word ∷ more
  pub fault_is : text_fault f ≡ record { kind = Surplus; line = word.line }

-- no word is left, or the next one is a surplus
abbrev pub Ends : {A : Type 0} → Position → Result A TextFault → Type 0
Ends at answer = MatchResult answer (λ _. words_left at ≡ []) (λ f. IsSurplus at f)

-- ---- white space

-- The white space in front was passed over: the words and the fields from here on are the same.
pub record SkipsWhite (old new : Position) : Type 0 where
  pub reached : IsPosition new
  pub place : new.place ≡ old.place + prefix_len is_white (bytes_left old)
  pub words : words_left old ≡ words_left new
  pub fields : fields_left old ≡ fields_left new

-- A word that is a number.
use Rattle.std.specs.Prelude.{◌≡◌, ℕ, ◌≤◌, Bool, List, [], ◌∷◌, Result, Ok, Err, IsTrue, nat_le, if◌then◌else◌}
use Rattle.std.specs.List.{list_all}
use Rattle.std.specs.Char.{is_ascii_digit}
use Rattle.std.specs.Str.Parse.{digits_value}
use Rattle.yew_text.specs.declared.text.TextKind.{TextKind}
use Rattle.yew_text.specs.declared.text.TextKind.TheVariants.{NotNumber, TooBig, EndsEarly}
use Rattle.yew_text.specs.Words.{TextWord}

-- each byte is a digit
abbrev pub is_digits : List ℕ → Bool
is_digits text = list_all is_ascii_digit text

-- the value of digits, whatever zeros lead them
abbrev pub value_of : List ℕ → ℕ
value_of = digits_value 10

-- the greatest number that a file may have, 2^63 - 1
abbrev pub greatest : ℕ
greatest = 9223372036854775807

-- the word is this number
pub record IsNumber (word : TextWord) (n : ℕ) : Type 0 where
  pub digits : IsTrue (is_digits word.text)
  pub value : n ≡ value_of word.text
  pub fits : n ≤ greatest

-- a fault, with the line where it is
pub record Fault : Type 0 where
  pub kind : TextKind
  pub line : ℕ

-- the number that a word is, or why it is none
abbrev pub number_in : TextWord → Result ℕ Fault
number_in word = if is_digits word.text then (if nat_le (value_of word.text) greatest then Ok (value_of word.text) else Err (record { kind = TooBig; line = word.line })) else Err (record { kind = NotNumber; line = word.line })

-- the number at the front of these words, where the line of the end is the first number given
abbrev pub first_number : ℕ → List TextWord → Result ℕ Fault
first_number end [] = Err (record { kind = EndsEarly; line = end })
first_number end (word ∷ words) = number_in word

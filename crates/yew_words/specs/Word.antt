-- A word of the command line, and what a single word can be.
use Rattle.std.specs.Prelude.{ℕ, Bool, false, not, ◌&&◌, List, [], ◌∷◌, ◌==◌, map, String, string_bytes}
use Rattle.std.specs.List.{list_all}
use Rattle.std.specs.Char.{is_ascii_digit}
use Rattle.std.specs.Str.Parse.{digits_value}
use Rattle.std.specs.declared.alloc.Global.{Global}

-- a word: its bytes
abbrev pub Word : Type 0
Word = List ℕ

-- the words of a list of strings
abbrev pub texts : List (String Global) → List Word
texts words = map string_bytes words

-- a file's name: a word that is not empty and does not begin with `-`, which is byte 45
abbrev pub is_file_name : Word → Bool
is_file_name [] = false
is_file_name (c ∷ cs) = not (c == 45)

-- a number: `0`, or a digit other than `0`, which is byte 48, and then any number of digits
abbrev pub is_number : Word → Bool
is_number [] = false
is_number (c ∷ []) = is_ascii_digit c
is_number (c ∷ d ∷ ds) = not (c == 48) && list_all is_ascii_digit (c ∷ d ∷ ds)

-- its value
abbrev pub number_of : Word → ℕ
number_of = digits_value 10

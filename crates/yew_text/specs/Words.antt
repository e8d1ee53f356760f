-- The lines and the words of a text.
use Rattle.std.specs.Prelude.{ℕ, ◌+◌, Bool, true, false, ◌||◌, List, [], ◌∷◌, map, filter, flat_map, count_by, ◌==◌}
use Rattle.std.specs.List.{slice_split}

-- space, tab, line feed and carriage return
abbrev pub is_white : ℕ → Bool
is_white b = b == 32 || b == 9 || b == 10 || b == 13

-- the line feed, which ends a line
abbrev pub is_newline : ℕ → Bool
is_newline b = b == 10

-- a line without its line feed, and its number
pub record Line : Type 0 where
  pub number : ℕ
  pub text : List ℕ

abbrev pub numbered : ℕ → List (List ℕ) → List Line
numbered n [] = []
numbered n (text ∷ texts) = record { number = n; text = text } ∷ numbered (n + 1) texts

-- the lines of a text, numbered from n on: the pieces between line feeds
abbrev pub lines_from : ℕ → List ℕ → List Line
lines_from n bytes = numbered n (slice_split is_newline bytes)

-- a word, and the number of its line
pub record TextWord : Type 0 where
  pub text : List ℕ
  pub line : ℕ

abbrev pub is_nonempty : List ℕ → Bool
is_nonempty [] = false
is_nonempty (b ∷ bs) = true

-- the words of a line: the pieces between white space that are not empty
abbrev pub words_in : Line → List TextWord
words_in line = map (λ text. record { text = text; line = line.number }) (filter is_nonempty (slice_split is_white line.text))

-- the words of a text whose first line has the number n
abbrev pub words_from : ℕ → List ℕ → List TextWord
words_from n bytes = flat_map words_in (lines_from n bytes)

-- the lines and the words of a whole file, whose first line has the number 1
abbrev pub lines_of : List ℕ → List Line
lines_of bytes = lines_from 1 bytes

abbrev pub words_of : List ℕ → List TextWord
words_of bytes = words_from 1 bytes

-- the line of the end: 1 and the line feeds of the file
abbrev pub end_line : List ℕ → ℕ
end_line bytes = 1 + count_by is_newline bytes

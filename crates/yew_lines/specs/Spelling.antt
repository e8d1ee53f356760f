-- How lines of words and numbers are spelled, as bytes.
use Rattle.std.specs.Prelude.{ℕ, ◌-◌, ◌^◌, List, [], ◌∷◌, ◌++◌, flat_map, decimal, codes, nat_lt, if◌then◌else◌}

-- a line: its text and a line feed
abbrev pub line : List ℕ → List ℕ
line text = text ++ 10 ∷ []

-- a number after one space
abbrev pub spaced : ℕ → List ℕ
spaced n = 32 ∷ decimal n

-- a line of a word, and of numbers, each after one space
abbrev pub numbers_line : List ℕ → List ℕ → List ℕ
numbers_line word numbers = line (word ++ flat_map spaced numbers)

-- a count of 64 bits, with a mark where it may be more
abbrev pub count_text : ℕ → List ℕ
count_text n = if nat_lt n (2 ^ 64 - 1) then decimal n else codes ">=" ++ decimal n

-- Sets of numbers as lists: each set is one rising list.
use Rattle.std.specs.Prelude.{ℕ, Bool, true, not, ◌&&◌, List, [], ◌∷◌, ◌==◌, nat_lt, nat_le}
use Rattle.std.specs.List.{list_all, list_any}

-- the number stands in the list
abbrev pub contains : List ℕ → ℕ → Bool
contains xs x = list_any (λ y. y == x) xs

-- no number stands twice
abbrev pub are_different : List ℕ → Bool
are_different [] = true
are_different (x ∷ xs) = not (contains xs x) && are_different xs

-- each number is from low to high
abbrev pub are_within : ℕ → ℕ → List ℕ → Bool
are_within low high xs = list_all (λ x. nat_le low x && nat_le x high) xs

-- each number is below the next
abbrev pub is_rising : List ℕ → Bool
is_rising [] = true
is_rising (x ∷ []) = true
is_rising (x ∷ y ∷ xs) = nat_lt x y && is_rising (y ∷ xs)

-- a set of numbers from low to high
abbrev pub is_set : ℕ → ℕ → List ℕ → Bool
is_set low high xs = is_rising xs && are_within low high xs

-- The pairs of different numbers below a size, the lower one first, in the order in which words are drawn for them.
use Rattle.std.specs.Prelude.{◌≡◌, ℕ, zero, suc, ◌+◌, ◌-◌, ◌*◌, ◌/◌, List, map, flat_map}
use Rattle.std.specs.List.{range_with_len}

-- row by row: row u, counted from 0, has the pairs of u with each number above it, rising
abbrev pub pairs_of : ℕ → ℕ → List (ℕ × ℕ)
pairs_of size u = map (λ v. (u, v)) (range_with_len (u + 1) (size - (u + 1)))

abbrev pub pairs : ℕ → List (ℕ × ℕ)
pairs size = flat_map (pairs_of size) (range_with_len 0 size)

-- so many pairs stand before row u
unfoldable pub pairs_before : ℕ → ℕ → ℕ
pairs_before size zero = 0
pairs_before size (suc u) = pairs_before size u + (size - suc u)

-- the place of the pair of u and v among all pairs, counted from 0
abbrev pub pair_place : ℕ → ℕ → ℕ → ℕ
pair_place size u v = pairs_before size u + (v - suc u)

abbrev pub place_of : ℕ → ℕ × ℕ → ℕ
place_of size pair = pair_place size pair.0 pair.1

-- The places of the pairs are 0, 1, 2 and so on.
abbrev pub AreInOrder : ℕ → Type 0
AreInOrder size = map (place_of size) (pairs size) ≡ range_with_len 0 (size * (size - 1) / 2)

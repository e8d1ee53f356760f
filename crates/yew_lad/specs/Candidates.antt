-- Sets of candidates as words.
use Rattle.std.specs.Prelude.{◌≡◌, ℕ, ◌<◌, List, ◌==◌, length, filter, slice_index}
use Rattle.std.specs.Int.{bit_at}
use Rattle.std.specs.List.{range_with_len}

-- the places in a word
abbrev pub places_in : ℕ → List ℕ
places_in word = filter (λ place. bit_at word place == 1) (range_with_len 0 64)

-- the places in a word are mapped, and their images are rows of a table
pub record ArePlaces (rows : ℕ) (images : List ℕ) (word : ℕ) : Type 0 where
  pub mapped : (place : ℕ) → bit_at word place ≡ 1 → place < length images
  pub rows_are : (place : ℕ) → bit_at word place ≡ 1 → slice_index images place < rows

-- Sets of numbers as words of 64 bits.
use Rattle.std.specs.Prelude.{ℕ, List, filter, ◌==◌}
use Rattle.std.specs.Int.{bit_at}
use Rattle.std.specs.List.{range_with_len}

-- the places of the bits of a word, rising
unfoldable pub bits_of : ℕ → List ℕ
bits_of word = filter (λ x. bit_at word x == 1) (range_with_len 0 64)

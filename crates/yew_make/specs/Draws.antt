-- The numbers that are drawn: the 32-bit words of the generator PCG XSH RR 64/32 in its stream 54.
use Rattle.std.specs.Prelude.{ℕ, zero, suc, ◌+◌, ◌*◌, ◌/◌, ◌%◌, ◌^◌, List, map, bit_xor}
use Rattle.std.specs.Int.{w32, rotate_right}
use Rattle.std.specs.List.{range_with_len}

-- the generator's multiplier, and the odd increment of stream 54
abbrev pub multiplier : ℕ
multiplier = 6364136223846793005

abbrev pub increment : ℕ
increment = 109

-- the state from which the first word is taken, and the state after a word was taken
unfoldable pub first_state : ℕ → ℕ
first_state seed = ((seed + increment) * multiplier + increment) % 2 ^ 64

unfoldable pub next_state : ℕ → ℕ
next_state state = (state * multiplier + increment) % 2 ^ 64

-- the state after this many words
unfoldable pub state_after : ℕ → ℕ → ℕ
state_after state zero = state
state_after state (suc count) = next_state (state_after state count)

-- the word of a state: a xorshift to the top, and a rotation by the five highest bits
unfoldable pub word_of : ℕ → ℕ
word_of state = rotate_right w32 (bit_xor (state / 2 ^ 18) state / 2 ^ 27 % 2 ^ 32) (state / 2 ^ 59)

-- word number k from a state on, and draw number k of a seed, counted from 0
abbrev pub word_from : ℕ → ℕ → ℕ
word_from state k = word_of (state_after state k)

abbrev pub draw : ℕ → ℕ → ℕ
draw seed k = word_from (first_state seed) k

-- the first draws of a seed
abbrev pub draws : ℕ → ℕ → List ℕ
draws seed count = map (draw seed) (range_with_len 0 count)

-- the weight of a drawn word, from 1 to 1000
abbrev pub weight_of : ℕ → ℕ
weight_of word = 1 + word % 1000

-- the weight of word number k from a state on, and of draw number k of a seed
abbrev pub weight_from : ℕ → ℕ → ℕ
weight_from state k = weight_of (word_from state k)

abbrev pub weight : ℕ → ℕ → ℕ
weight seed k = weight_from (first_state seed) k

-- the weights of so many words from number `start` on
abbrev pub weights_from : ℕ → ℕ → ℕ → List ℕ
weights_from state start count = map (weight_from state) (range_with_len start count)

abbrev pub weights : ℕ → ℕ → ℕ → List ℕ
weights seed start count = weights_from (first_state seed) start count

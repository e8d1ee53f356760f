-- The generator's steps in numbers.
use Rattle.std.proofs.Common.{◌≡◌, ℕ, zero, suc, ◌+◌, ◌*◌, ◌%◌, ◌^◌, List, ◌∷◌, map, refl, sym, ap, ◌∙◌, arith}
use Rattle.std.specs.List.{range_with_len}
use Rattle.std.proofs.Math.Nat.{mod-add-mod}
use Rattle.std.proofs.lemmas.Nat.{mul-mod_first}
use Rattle.rand_core.specs.Steps.{first_words}
use Rattle.rand_pcg.specs.Lcg.{Lcg, next, started, increment_of}
use Rattle.rand_pcg.specs.Pcg.{multiplier_64, pcg32}
use Rattle.yew_make.specs.Draws.{multiplier, increment, first_state, next_state, state_after, word_of, word_from, weight_from, draws, weights_from}

-- a sum modulo of what was reduced before
pub next_is : (state : ℕ) → (state * multiplier % 2 ^ 64 + increment) % 2 ^ 64 ≡ next_state state
unfolding next_state
next_is state = mod-add-mod (state * multiplier) (2 ^ 64) increment

pub first_is : (seed : ℕ) → ((seed + increment) % 2 ^ 64 * multiplier % 2 ^ 64 + increment) % 2 ^ 64 ≡ first_state seed
unfolding first_state
first_is seed =
    ap (λ (n : ℕ). (n + increment) % 2 ^ 64) (mul-mod_first (seed + increment) multiplier (2 ^ 64))
    ∙ mod-add-mod ((seed + increment) * multiplier) (2 ^ 64) increment

-- the generator in this state
abbrev pub generator : ℕ → Lcg
generator state = record { state = state; increment = increment }

pub started_is : (seed : ℕ) → started 64 multiplier_64 seed (increment_of 64 54) ≡ generator (first_state seed)
started_is seed = ap generator (first_is seed)

next_generator : (state : ℕ) → next 64 multiplier_64 (generator state) ≡ generator (next_state state)
next_generator state = ap generator (next_is state)

first_words-from : (state start count : ℕ) → first_words pcg32 count (generator (state_after state start)) ≡ map (word_from state) (range_with_len start count)
unfolding first_words word_of state_after
first_words-from state start zero = refl
first_words-from state start (suc count) =
    let one_more : suc start ≡ start + 1 = omega arith in
    ap (λ (g : Lcg). word_from state start ∷ first_words pcg32 count g) (next_generator (state_after state start))
    ∙ ap (λ (ws : List ℕ). word_from state start ∷ ws) (first_words-from state (suc start) count)
    ∙ ap (λ (k : ℕ). word_from state start ∷ map (word_from state) (range_with_len k count)) one_more

-- the draws are the words of the generator
pub draws_are : (seed count : ℕ) → draws seed count ≡ first_words pcg32 count (started 64 multiplier_64 seed (increment_of 64 54))
unfolding state_after
draws_are seed count = sym (ap (first_words pcg32 count) (started_is seed) ∙ first_words-from (first_state seed) 0 count)

-- words after words
pub state_after-add : (state a b : ℕ) → state_after (state_after state a) b ≡ state_after state (a + b)
unfolding state_after
state_after-add state a zero = let e : a ≡ a + 0 = omega arith in ap (state_after state) e
state_after-add state a (suc b) = let e : suc (a + b) ≡ a + suc b = omega arith in ap next_state (state_after-add state a b) ∙ ap (state_after state) e

pub weights_from-after : (state a b count : ℕ) → weights_from (state_after state a) b count ≡ weights_from state (a + b) count
weights_from-after state a b zero = refl
weights_from-after state a b (suc count) =
    let later : a + (b + 1) ≡ a + b + 1 = omega arith in
    ap (λ (s : ℕ). (1 + word_of s % 1000) ∷ weights_from (state_after state a) (b + 1) count) (state_after-add state a b)
    ∙ ap (λ (ws : List ℕ). weight_from state (a + b) ∷ ws) (weights_from-after state a (b + 1) count)
    ∙ ap (λ (k : ℕ). weight_from state (a + b) ∷ weights_from state k count) later

-- one word, and one more
pub state_after-none : (state : ℕ) → state_after state 0 ≡ state
unfolding state_after
state_after-none state = refl

pub state_after-more : (state k : ℕ) → state_after state (k + 1) ≡ next_state (state_after state k)
unfolding state_after
state_after-more state k = let e : k + 1 ≡ suc k = omega arith in ap (state_after state) e

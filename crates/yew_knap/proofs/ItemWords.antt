-- The four words of a set of items, one of which takes a bit.
use Rattle.std.proofs.Common.{◌≡◌, ℕ, zero, suc, ◌<◌, List, [], ◌∷◌, length, bit_or, nat_eq, if◌then◌else◌, slice_index_or, slice_set, refl, arith}

-- each word is kept, but for the one at the place
pub words-with : (words : List ℕ) (place bit : ℕ) → length words ≡ 4 → place < 4 →
    (if nat_eq place 0 then bit_or (slice_index_or words 0 0) bit else slice_index_or words 0 0)
    ∷ (if nat_eq place 1 then bit_or (slice_index_or words 1 0) bit else slice_index_or words 1 0)
    ∷ (if nat_eq place 2 then bit_or (slice_index_or words 2 0) bit else slice_index_or words 2 0)
    ∷ (if nat_eq place 3 then bit_or (slice_index_or words 3 0) bit else slice_index_or words 3 0)
    ∷ []
    ≡ slice_set words place (bit_or (slice_index_or words place 0) bit)
words-with (a ∷ b ∷ c ∷ d ∷ []) zero bit four within = refl
words-with (a ∷ b ∷ c ∷ d ∷ []) (suc zero) bit four within = refl
words-with (a ∷ b ∷ c ∷ d ∷ []) (suc (suc zero)) bit four within = refl
words-with (a ∷ b ∷ c ∷ d ∷ []) (suc (suc (suc zero))) bit four within = refl
words-with (a ∷ b ∷ c ∷ d ∷ []) (suc (suc (suc (suc place)))) bit four within = absurd (omega (arith, within))
words-with [] place bit four within = absurd (omega (arith, four))
words-with (a ∷ []) place bit four within = absurd (omega (arith, four))
words-with (a ∷ b ∷ []) place bit four within = absurd (omega (arith, four))
words-with (a ∷ b ∷ c ∷ []) place bit four within = absurd (omega (arith, four))
words-with (a ∷ b ∷ c ∷ d ∷ e ∷ more) place bit four within = absurd (omega (arith, four))

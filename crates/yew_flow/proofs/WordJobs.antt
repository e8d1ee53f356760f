-- The jobs of a word, one after another.
use Rattle.std.proofs.Common.{◌≡◌, ◌≢◌, ℕ, ◌+◌, ◌^◌, ◌<◌, [], ◌∷◌, map, ap}
use Rattle.std.specs.Int.{trailing_zeros, w64}
use Rattle.yew_flow.specs.Nodes.{jobs_in, cleared}
use Rattle.yew_flow.proofs.Lowest.{bits_of-zero, bits_of-trailing}

-- the first job of a word
pub jobs_in-first : (word : ℕ) → word ≢ 0 → word < 2 ^ 64 → jobs_in word ≡ (trailing_zeros w64 word + 1) ∷ jobs_in (cleared word (trailing_zeros w64 word))
jobs_in-first word some fits = ap (map (λ place. place + 1)) (bits_of-trailing word some fits)

pub jobs_in-none : jobs_in 0 ≡ []
jobs_in-none = ap (map (λ place. place + 1)) bits_of-zero

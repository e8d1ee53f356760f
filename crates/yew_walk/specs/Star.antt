-- A wide tree for tests: a node is how many leaves it has as its children, and a leaf has none.
use Rattle.std.specs.Prelude.{◌≡◌, ℕ, ◌+◌, ◌-◌, ◌<◌, ◌≤◌, ◌^◌, min, List, ◌∷◌, length, replicate}
use Rattle.std.specs.List.{AllByRecursion}
use Rattle.std.proofs.Common.{zero, suc, arith, ap}
use Rattle.std.proofs.lemmas.List.{length-replicate}
use Rattle.yew_laws.specs.Tree.{IsRanked, IsBounded}
use Rattle.yew_laws.proofs.Bounds.{IsBounded-from_steps}

-- so many leaves
abbrev pub leaves : ℕ → List ℕ
leaves count = replicate count 0

abbrev pub rank_of : ℕ → ℕ
rank_of n = min n 1

abbrev pub IsNarrow : ℕ → Type 0
IsNarrow n = n < 2 ^ 18

all-leaves : (P : ℕ → Type 0) (count : ℕ) → (0 < count → P 0) → AllByRecursion P (leaves count)
all-leaves P zero p = tt
all-leaves P (suc count) p = (p (omega arith), all-leaves P count (λ above. p (omega arith)))

pub star-ranked : IsRanked IsNarrow leaves rank_of
star-ranked = record {
  stays_sound = λ n s. all-leaves IsNarrow n (λ above. omega arith);
  rank_falls = λ n s. all-leaves (λ c. rank_of c < rank_of n) n (λ above. omega arith);
}

pub star-bounded : IsBounded IsNarrow leaves (λ n. 0) (λ n. 0)
star-bounded = IsBounded-from_steps star-ranked (λ n s. omega arith) (λ n s. all-leaves (λ c. 0 ≤ 0) n (λ above. omega arith)) (λ n s. omega arith)

pub star-countable : (n : ℕ) → IsNarrow n → length (leaves n) + 1 < 2 ^ 32
star-countable n s = omega (arith, s, length-replicate {A = ℕ} n 0)

pub star-root_rank : (n : ℕ) → rank_of n ≤ 65535
star-root_rank n = omega arith

pub leaves_first : (count : ℕ) → 0 < count → leaves count ≡ 0 ∷ leaves (count - 1)
leaves_first zero above = absurd (omega arith)
leaves_first (suc count) above = let fewer : count ≡ suc count - 1 = omega arith in ap (λ k. 0 ∷ leaves k) fewer

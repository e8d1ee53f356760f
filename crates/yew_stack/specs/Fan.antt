-- A small tree for tests: the children of a number below 5 are the greater numbers below 5.
use Rattle.std.specs.Prelude.{◌≡◌, ℕ, ◌+◌, ◌-◌, ◌<◌, ◌≤◌, ◌^◌, List, [], ◌∷◌, length, refl}
use Rattle.std.specs.List.{AllByRecursion}
use Rattle.std.proofs.Common.{zero, suc, arith, ap}
use Rattle.yew_laws.specs.Tree.{IsRanked, IsBounded}
use Rattle.yew_laws.proofs.Members.{AllByRecursion-weaker}
use Rattle.yew_laws.proofs.Bounds.{IsBounded-from_steps}

-- so many numbers from k on
abbrev pub numbers_from : ℕ → ℕ → List ℕ
numbers_from k zero = []
numbers_from k (suc count) = k ∷ numbers_from (k + 1) count

-- the numbers below 5 from k on
abbrev pub from : ℕ → List ℕ
from k = numbers_from k (5 - k)

abbrev pub children_of : ℕ → List ℕ
children_of n = from (n + 1)

abbrev pub rank_of : ℕ → ℕ
rank_of n = 4 - n

abbrev pub IsBelowFive : ℕ → Type 0
IsBelowFive n = n < 5

abbrev Known : ℕ → ℕ → Type 0
Known n c = (c < 5) × (4 - c < 4 - n)

numbers-known : (n k count : ℕ) → n < k → k + count ≤ 5 → AllByRecursion (Known n) (numbers_from k count)
numbers-known n k zero above fits = tt
numbers-known n k (suc count) above fits = ((omega arith, omega arith), numbers-known n (k + 1) count (omega arith) (omega arith))

numbers-length : (k count : ℕ) → length (numbers_from k count) ≡ count
numbers-length k zero = refl
numbers-length k (suc count) = ap suc (numbers-length (k + 1) count)

children-known : (n : ℕ) → n < 5 → AllByRecursion (Known n) (children_of n)
children-known n s = numbers-known n (n + 1) (5 - (n + 1)) (omega arith) (omega arith)

pub fan-ranked : IsRanked IsBelowFive children_of rank_of
fan-ranked = record {
  stays_sound = λ n s. AllByRecursion-weaker (Known n) IsBelowFive (λ c k. k.0) (children_of n) (children-known n s);
  rank_falls = λ n s. AllByRecursion-weaker (Known n) (λ c. rank_of c < rank_of n) (λ c k. k.1) (children_of n) (children-known n s);
}

all-same : (ns : List ℕ) → AllByRecursion (λ (c : ℕ). 1 ≤ 1) ns
all-same [] = tt
all-same (n ∷ ns) = (omega arith, all-same ns)

pub fan-bounded : IsBounded IsBelowFive children_of (λ n. 0) (λ n. 1)
fan-bounded = IsBounded-from_steps fan-ranked (λ n s. omega arith) (λ n s. all-same (children_of n)) (λ n s. omega arith)

pub fan-countable : (n : ℕ) → length (children_of n) + 1 < 2 ^ 32
fan-countable n = omega (arith, numbers-length (n + 1) (5 - (n + 1)))

pub from-first : (k : ℕ) → k < 5 → from k ≡ k ∷ from (k + 1)
from-first k below = let count : 5 - k ≡ suc (5 - (k + 1)) = omega arith in ap (numbers_from k) count

pub from-none : (k : ℕ) → 5 ≤ k → from k ≡ []
from-none k past = let count : 5 - k ≡ 0 = omega arith in ap (numbers_from k) count

pub fan-root_rank : rank_of 0 ≤ 65535
fan-root_rank = omega arith

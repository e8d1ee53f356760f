-- A small tree for tests: the children of a number below 5 are the greater numbers below 5, the greatest first.
use Rattle.std.specs.Prelude.{◌≡◌, ℕ, ◌+◌, ◌-◌, ◌%◌, ◌<◌, ◌≤◌, ◌^◌, min, List, [], ◌∷◌, length, refl}
use Rattle.std.specs.List.{AllByRecursion}
use Rattle.std.proofs.Common.{zero, suc, arith, ap}
use Rattle.yew_laws.specs.Tree.{IsRanked, IsBounded}
use Rattle.yew_laws.proofs.Members.{AllByRecursion-weaker}
use Rattle.yew_laws.proofs.Bounds.{IsBounded-from_steps}

-- the numbers above n, from so many above it down
abbrev pub down_to : ℕ → ℕ → List ℕ
down_to n zero = []
down_to n (suc count) = (n + suc count) ∷ down_to n count

abbrev pub children_of : ℕ → List ℕ
children_of n = down_to n (4 - n)

abbrev pub rank_of : ℕ → ℕ
rank_of n = 4 - n

abbrev pub IsBelowFive : ℕ → Type 0
IsBelowFive n = n < 5

-- the rest by 5 of a number that is shifted, at most the cap
abbrev pub worth_of : ℕ → ℕ → ℕ → ℕ
worth_of shift cap n = min cap ((n + shift) % 5)

abbrev Known : ℕ → ℕ → Type 0
Known n c = (c < 5) × (4 - c < 4 - n)

down_to-known : (n count : ℕ) → n + count < 5 → AllByRecursion (Known n) (down_to n count)
down_to-known n zero fits = tt
down_to-known n (suc count) fits = ((omega arith, omega arith), down_to-known n count (omega arith))

length-down_to : (n count : ℕ) → length (down_to n count) ≡ count
length-down_to n zero = refl
length-down_to n (suc count) = ap suc (length-down_to n count)

children-known : (n : ℕ) → n < 5 → AllByRecursion (Known n) (children_of n)
children-known n s = down_to-known n (4 - n) (omega arith)

pub numbers-ranked : IsRanked IsBelowFive children_of rank_of
numbers-ranked = record {
  stays_sound = λ n s. AllByRecursion-weaker (Known n) IsBelowFive (λ c k. k.0) (children_of n) (children-known n s);
  rank_falls = λ n s. AllByRecursion-weaker (Known n) (λ c. rank_of c < rank_of n) (λ c k. k.1) (children_of n) (children-known n s);
}

all-same : (ns : List ℕ) → AllByRecursion (λ (c : ℕ). 4 ≤ 4) ns
all-same [] = tt
all-same (n ∷ ns) = (omega arith, all-same ns)

pub numbers-bounded : (shift cap : ℕ) → IsBounded IsBelowFive children_of (worth_of shift cap) (λ n. 4)
numbers-bounded shift cap = IsBounded-from_steps numbers-ranked (λ n s. omega arith) (λ n s. all-same (children_of n)) (λ n s. omega arith)

pub numbers-countable : (n : ℕ) → length (children_of n) + 1 < 2 ^ 32
numbers-countable n = omega (arith, length-down_to n (4 - n))

pub numbers-root_rank : rank_of 0 ≤ 65535
numbers-root_rank = omega arith

pub down_to_first : (n count : ℕ) → 0 < count → down_to n count ≡ (n + count) ∷ down_to n (count - 1)
down_to_first n zero above = absurd (omega arith)
down_to_first n (suc count) above = let fewer : count ≡ suc count - 1 = omega arith in ap (λ k. (n + suc count) ∷ down_to n k) fewer

-- A small tree for tests: the children of 0 are 1 and 2, those of 1 are 3 and 4, and those of 2 are 5 and 6.
use Rattle.std.specs.Prelude.{◌≡◌, ℕ, ◌+◌, ◌-◌, ◌%◌, ◌<◌, ◌≤◌, ◌^◌, List, [], ◌∷◌, length, refl}
use Rattle.std.specs.List.{AllByRecursion, range_with_len}
use Rattle.std.proofs.Common.{zero, suc, arith, ap}
use Rattle.yew_laws.specs.Tree.{IsRanked, IsBounded}
use Rattle.yew_laws.proofs.Bounds.{IsBounded-from_steps}

-- the two children of a number below 3
abbrev pub children_of : ℕ → List ℕ
children_of zero = 1 ∷ 2 ∷ []
children_of (suc zero) = 3 ∷ 4 ∷ []
children_of (suc (suc zero)) = 5 ∷ 6 ∷ []
children_of (suc (suc (suc n))) = []

abbrev pub rank_of : ℕ → ℕ
rank_of n = 6 - n

abbrev pub IsBelowSeven : ℕ → Type 0
IsBelowSeven n = n < 7

-- the rest by 6 of the number and 2: that of 3, the first grandchild, is the greatest
abbrev pub worth_of : ℕ → ℕ
worth_of n = (n + 2) % 6

stays_below : (n : ℕ) → AllByRecursion IsBelowSeven (children_of n)
stays_below zero = (omega arith, (omega arith, tt))
stays_below (suc zero) = (omega arith, (omega arith, tt))
stays_below (suc (suc zero)) = (omega arith, (omega arith, tt))
stays_below (suc (suc (suc n))) = tt

ranks_fall : (n : ℕ) → AllByRecursion (λ c. rank_of c < rank_of n) (children_of n)
ranks_fall zero = (omega arith, (omega arith, tt))
ranks_fall (suc zero) = (omega arith, (omega arith, tt))
ranks_fall (suc (suc zero)) = (omega arith, (omega arith, tt))
ranks_fall (suc (suc (suc n))) = tt

pub small-ranked : IsRanked IsBelowSeven children_of rank_of
small-ranked = record { stays_sound = λ n s. stays_below n; rank_falls = λ n s. ranks_fall n }

all-same : (ns : List ℕ) → AllByRecursion (λ (c : ℕ). 5 ≤ 5) ns
all-same [] = tt
all-same (n ∷ ns) = (omega arith, all-same ns)

pub small-bounded : IsBounded IsBelowSeven children_of worth_of (λ n. 5)
small-bounded = IsBounded-from_steps small-ranked (λ n s. omega arith) (λ n s. all-same (children_of n)) (λ n s. omega arith)

pub small-countable : (n : ℕ) → length (children_of n) + 1 < 2 ^ 32
small-countable zero = omega arith
small-countable (suc zero) = omega arith
small-countable (suc (suc zero)) = omega arith
small-countable (suc (suc (suc n))) = omega arith

pub small-root_rank : rank_of 0 ≤ 65535
small-root_rank = omega arith

pub children_inner : (n : ℕ) → n < 3 → range_with_len (n + n + 1) 2 ≡ children_of n
children_inner zero below = refl
children_inner (suc zero) below = refl
children_inner (suc (suc zero)) below = refl
children_inner (suc (suc (suc n))) below = absurd (omega arith)

pub children_none : (n : ℕ) → 3 ≤ n → [] ≡ children_of n
children_none zero above = absurd (omega arith)
children_none (suc zero) above = absurd (omega arith)
children_none (suc (suc zero)) above = absurd (omega arith)
children_none (suc (suc (suc n))) above = refl

pub numbers_first : (from count : ℕ) → 0 < count → range_with_len from count ≡ from ∷ range_with_len (from + 1) (count - 1)
numbers_first from zero above = absurd (omega arith)
numbers_first from (suc count) above = let fewer : count ≡ suc count - 1 = omega arith in ap (λ k. from ∷ range_with_len (from + 1) k) fewer

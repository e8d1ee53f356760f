-- A small tree for tests: the sets of items of a knapsack that have at most two items, of which the second one comes only behind the first.
use Rattle.std.specs.Prelude.{◌≡◌, ℕ, ◌+◌, ◌-◌, ◌<◌, ◌≤◌, ◌^◌, List, [], ◌∷◌, length, ◌==◌, if◌then◌else◌}
use Rattle.std.specs.List.{AllByRecursion}
use Rattle.std.proofs.Common.{zero, suc, arith, ap}
use Rattle.yew_laws.specs.Tree.{IsRanked, IsBounded}
use Rattle.yew_laws.proofs.Bounds.{IsBounded-from_steps}

-- so many numbers from k on
abbrev pub numbers_from : ℕ → ℕ → List ℕ
numbers_from k zero = []
numbers_from k (suc count) = k ∷ numbers_from (k + 1) count

-- the first child, and the number behind the last one
abbrev pub first_of : ℕ → ℕ
first_of n = if n == 0 then 1 else (if n == 1 then 5 else 8)

abbrev pub end_of : ℕ → ℕ
end_of n = if n == 0 then 5 else 8

abbrev pub children_of : ℕ → List ℕ
children_of n = numbers_from (first_of n) (end_of n - first_of n)

abbrev pub rank_of : ℕ → ℕ
rank_of n = if n == 0 then 2 else (if n == 1 then 1 else 0)

abbrev pub IsBelowEight : ℕ → Type 0
IsBelowEight n = n < 8

abbrev pub worth_of : ℕ → ℕ
worth_of n =
    if n == 0 then 1 else (if n == 1 then 51 else (if n == 2 then 41 else (if n == 3 then 31 else (if n == 4 then 11 else (if n == 5 then 91 else (if n == 6 then 81 else 61))))))

abbrev pub bound_of : ℕ → ℕ
bound_of n =
    if n == 0 then 131 else (if n == 1 then 106 else (if n == 2 then 71 else (if n == 3 then 39 else (if n == 4 then 11 else (if n == 5 then 106 else (if n == 6 then 83 else 61))))))

-- by the eight numbers
eight : (P : ℕ → Type 0) → P 0 → P 1 → P 2 → P 3 → P 4 → P 5 → P 6 → P 7 → (n : ℕ) → n < 8 → P n
eight P a b c d e f g h zero less = a
eight P a b c d e f g h (suc zero) less = b
eight P a b c d e f g h (suc (suc zero)) less = c
eight P a b c d e f g h (suc (suc (suc zero))) less = d
eight P a b c d e f g h (suc (suc (suc (suc zero)))) less = e
eight P a b c d e f g h (suc (suc (suc (suc (suc zero))))) less = f
eight P a b c d e f g h (suc (suc (suc (suc (suc (suc zero)))))) less = g
eight P a b c d e f g h (suc (suc (suc (suc (suc (suc (suc zero))))))) less = h
eight P a b c d e f g h (suc (suc (suc (suc (suc (suc (suc (suc n)))))))) less = absurd (omega arith)

pub picks-ranked : IsRanked IsBelowEight children_of rank_of
picks-ranked = record {
  stays_sound = eight (λ n. AllByRecursion IsBelowEight (children_of n)) (omega arith, (omega arith, (omega arith, (omega arith, tt)))) (omega arith, (omega arith, (omega arith, tt))) tt tt tt tt tt tt;
  rank_falls = eight (λ n. AllByRecursion (λ c. rank_of c < rank_of n) (children_of n)) (omega arith, (omega arith, (omega arith, (omega arith, tt)))) (omega arith, (omega arith, (omega arith, tt))) tt tt tt tt tt tt;
}

pub picks-bounded : IsBounded IsBelowEight children_of worth_of bound_of
picks-bounded = IsBounded-from_steps picks-ranked
    (eight (λ n. worth_of n ≤ bound_of n) (omega arith) (omega arith) (omega arith) (omega arith) (omega arith) (omega arith) (omega arith) (omega arith))
    (eight (λ n. AllByRecursion (λ c. bound_of c ≤ bound_of n) (children_of n)) (omega arith, (omega arith, (omega arith, (omega arith, tt)))) (omega arith, (omega arith, (omega arith, tt))) tt tt tt tt tt tt)
    (eight (λ n. bound_of n < 2 ^ 40) (omega arith) (omega arith) (omega arith) (omega arith) (omega arith) (omega arith) (omega arith) (omega arith))

pub picks-countable : (n : ℕ) → n < 8 → length (children_of n) + 1 < 2 ^ 32
picks-countable = eight (λ n. length (children_of n) + 1 < 2 ^ 32) (omega arith) (omega arith) (omega arith) (omega arith) (omega arith) (omega arith) (omega arith) (omega arith)

pub picks-root_rank : rank_of 0 ≤ 65535
picks-root_rank = omega arith

-- the first of numbers that are left, and none
pub first_left : (k end : ℕ) → k < end → numbers_from k (end - k) ≡ k ∷ numbers_from (k + 1) (end - (k + 1))
first_left k end below = let count : end - k ≡ suc (end - (k + 1)) = omega arith in ap (numbers_from k) count

pub none_left : (k end : ℕ) → end ≤ k → numbers_from k (end - k) ≡ []
none_left k end past = let count : end - k ≡ 0 = omega arith in ap (numbers_from k) count

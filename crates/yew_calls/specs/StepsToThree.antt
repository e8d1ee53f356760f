-- The numbers from 0 to 3 as a tree of one branch, for tests.
use Rattle.std.specs.Prelude.{◌≡◌, ℕ, ◌+◌, ◌-◌, ◌<◌, ◌≤◌, ◌^◌, true, false, List, [], ◌∷◌, length, nat_lt, if◌then◌else◌}
use Rattle.std.specs.List.{AllByRecursion}
use Rattle.std.proofs.Common.{arith, refl}
use Rattle.std.proofs.lemmas.Bool.Decides.{nat_tests}
use Rattle.yew_laws.specs.Tree.{IsRanked, IsBounded}

-- a number below 3 has the next one as its one child
abbrev pub next_number : ℕ → List ℕ
next_number n = if nat_lt n 3 then (n + 1) ∷ [] else []

-- how many numbers follow, up to 3
abbrev pub numbers_left : ℕ → ℕ
numbers_left n = 3 - n

abbrev pub IsUpToThree : ℕ → Type 0
IsUpToThree n = n ≤ 3

pub steps-ranked : IsRanked IsUpToThree next_number numbers_left
steps-ranked = record {
  stays_sound = λ n s.
      elim (nat_lt n 3) as (λ b. nat_lt n 3 ≡ b → AllByRecursion IsUpToThree (if b then (n + 1) ∷ [] else [])) [ true ↦ λ is. let below : n < 3 = grind (arith, nat_tests) in (omega arith, tt) | false ↦ λ is. tt ] refl;
  rank_falls = λ n s.
      elim (nat_lt n 3) as (λ b. nat_lt n 3 ≡ b → AllByRecursion (λ c. numbers_left c < numbers_left n) (if b then (n + 1) ∷ [] else [])) [ true ↦ λ is. let below : n < 3 = grind (arith, nat_tests) in (omega arith, tt) | false ↦ λ is. tt ] refl;
}

pub steps-bounded : IsBounded IsUpToThree next_number (λ _. 0) (λ _. 1)
steps-bounded = record {
  bounds = λ n m path s at. omega arith;
  fits = λ n s. omega arith;
}

pub steps-countable : (n : ℕ) → IsUpToThree n → length (next_number n) + 1 < 2 ^ 32
steps-countable n s = elim (nat_lt n 3) as (λ b. length {A = ℕ} (if b then (n + 1) ∷ [] else []) + 1 < 2 ^ 32) [ true ↦ omega arith | false ↦ omega arith ]

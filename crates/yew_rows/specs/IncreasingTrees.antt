-- Increasing trees, for tests: the nodes are the numbers below a size, and each child is a greater number than its parent.
use Rattle.std.specs.Prelude.{◌≡◌, ◌≢◌, ℕ, ◌+◌, ◌-◌, ◌<◌, ◌≤◌, ◌^◌, ◌==◌, Bool, true, false, min, List, [], ◌∷◌, length, slice_index, if◌then◌else◌, refl}
use Rattle.std.specs.List.{AllByRecursion}
use Rattle.std.proofs.Common.{zero, suc, arith, ap}
use Rattle.std.proofs.lemmas.Bool.{eq-eqb, ne_eqb}
use Rattle.yew_laws.specs.Tree.{IsRanked, IsBounded}
use Rattle.yew_laws.proofs.Members.{AllByRecursion-weaker}
use Rattle.yew_laws.proofs.Bounds.{IsBounded-from_steps}

-- of so many numbers from k on, those whose parent is n
abbrev pub children_among : List ℕ → ℕ → ℕ → ℕ → List ℕ
children_among parents n k zero = []
children_among parents n k (suc count) = if slice_index parents k == n then k ∷ children_among parents n (k + 1) count else children_among parents n (k + 1) count

-- the numbers from k on whose parent is n
abbrev pub children_from : List ℕ → ℕ → ℕ → List ℕ
children_from parents n k = children_among parents n k (length parents - k)

-- the greater numbers whose parent is n
abbrev pub children_of : List ℕ → ℕ → List ℕ
children_of parents n = children_from parents n (n + 1)

-- how many numbers there are from n on
abbrev pub rank_of : List ℕ → ℕ → ℕ
rank_of parents n = length parents - n

-- a worth of a table, at most the bound
abbrev pub worth_of : List ℕ → List ℕ → ℕ → ℕ
worth_of parents worths n = min (slice_index worths n) (rank_of parents n)

-- a number of a table that is not too long
pub record IsNumberOf (parents : List ℕ) (n : ℕ) : Type 0 where
  pub small : length parents < 65536
  pub below : n < length parents

-- a number of the table that is greater than n
record IsGreater (parents : List ℕ) (n c : ℕ) : Type 0 where
  number : IsNumberOf parents c
  greater : n < c

module _ (parents : List ℕ) (n : ℕ) where
  children_among-greater : length parents < 65536 → (k count : ℕ) → n < k → k + count ≤ length parents → AllByRecursion (IsGreater parents n) (children_among parents n k count)
  children_among-greater small k zero above fits = tt
  children_among-greater small k (suc count) above fits =
      elim (slice_index parents k == n) as (λ b. AllByRecursion (IsGreater parents n) (if b then k ∷ children_among parents n (k + 1) count else children_among parents n (k + 1) count)) [
        | true ↦ (record { number = record { small = small; below = omega arith }; greater = above }, children_among-greater small (k + 1) count (omega arith) (omega arith))
        | false ↦ children_among-greater small (k + 1) count (omega arith) (omega arith)
      ]

  children_among-few : (k count : ℕ) → length (children_among parents n k count) ≤ count
  children_among-few k zero = omega arith
  children_among-few k (suc count) =
      elim (slice_index parents k == n) as (λ b. length (if b then k ∷ children_among parents n (k + 1) count else children_among parents n (k + 1) count) ≤ suc count) [
        | true ↦ omega (arith, children_among-few (k + 1) count)
        | false ↦ omega (arith, children_among-few (k + 1) count)
      ]

  children_of-greater : IsNumberOf parents n → AllByRecursion (IsGreater parents n) (children_of parents n)
  children_of-greater s = children_among-greater s.small (n + 1) (length parents - (n + 1)) (omega arith) (let below : n < length parents = s.below in omega arith)

pub increasing-ranked : (parents : List ℕ) → IsRanked (IsNumberOf parents) (children_of parents) (rank_of parents)
increasing-ranked parents = record {
  stays_sound = λ n s. AllByRecursion-weaker (IsGreater parents n) (IsNumberOf parents) (λ c k. k.number) (children_of parents n) (children_of-greater parents n s);
  rank_falls = λ n s.
      AllByRecursion-weaker (IsGreater parents n) (λ c. rank_of parents c < rank_of parents n)
      (λ c k. let a : n < c = k.greater in let b : c < length parents = k.number.below in omega arith)
      (children_of parents n) (children_of-greater parents n s);
}

pub increasing-bounded : (parents worths : List ℕ) → IsBounded (IsNumberOf parents) (children_of parents) (worth_of parents worths) (rank_of parents)
increasing-bounded parents worths = IsBounded-from_steps (increasing-ranked parents) (λ n s. omega arith)
    (λ n s. AllByRecursion-weaker (IsGreater parents n) (λ c. rank_of parents c ≤ rank_of parents n) (λ c k. let a : n < c = k.greater in omega arith) (children_of parents n) (children_of-greater parents n s))
    (λ n s. let small : length parents < 65536 = s.small in omega arith)

pub increasing-countable : (parents : List ℕ) (n : ℕ) → IsNumberOf parents n → length (children_of parents n) + 1 < 2 ^ 32
increasing-countable parents n s = let small : length parents < 65536 = s.small in omega (arith, children_among-few parents n (n + 1) (length parents - (n + 1)))

pub increasing-root_rank : (parents : List ℕ) → IsNumberOf parents 0 → rank_of parents 0 ≤ 65535
increasing-root_rank parents s = let small : length parents < 65536 = s.small in omega arith

module _ (parents : List ℕ) (n k : ℕ) where
  among-here : slice_index parents k ≡ n → (count : ℕ) → children_among parents n k (suc count) ≡ k ∷ children_among parents n (k + 1) count
  among-here here count = rw (eq-eqb (slice_index parents k) n here)

  among-past : slice_index parents k ≢ n → (count : ℕ) → children_among parents n k (suc count) ≡ children_among parents n (k + 1) count
  among-past past count = rw (ne_eqb (slice_index parents k) n past)

  pub children_from_here : k < length parents → slice_index parents k ≡ n → children_from parents n k ≡ k ∷ children_from parents n (k + 1)
  children_from_here below here =
      let left : length parents - k ≡ suc (length parents - (k + 1)) = omega arith in
      rw left (among-here here (length parents - (k + 1)))

  pub children_from_past : k < length parents → slice_index parents k ≢ n → children_from parents n k ≡ children_from parents n (k + 1)
  children_from_past below past =
      let left : length parents - k ≡ suc (length parents - (k + 1)) = omega arith in
      rw left (among-past past (length parents - (k + 1)))

  pub children_from_end : length parents ≤ k → children_from parents n k ≡ []
  children_from_end end = let none : length parents - k ≡ 0 = omega arith in ap (children_among parents n k) none

-- Tests of the numbers of a range and of the elements of a list.
use Rattle.std.specs.Prelude.{◌≡◌, ℕ, ◌+◌, ◌<◌, ◌≤◌, Bool, true, false, ◌||◌, ◌==◌, List, [], ◌∷◌, ◌++◌, cond, length, drop, filter, slice_index, refl}
use Rattle.std.specs.List.{AllByRecursion, list_all, list_any, range_with_len}
use Rattle.std.proofs.Common.{zero, suc, ap, sym, ◌∙◌, inl, inr, arith}
use Rattle.std.proofs.lemmas.Bool.{and_parts, and_from, cases_eq, cases_Bool}
use Rattle.yew_laws.specs.Sets.{contains}

-- what a test passes of a range
pub range-all : (p : ℕ → Bool) (low n : ℕ) → ((k : ℕ) → low ≤ k → k < low + n → p k ≡ true) → list_all p (range_with_len low n) ≡ true
range-all p low zero h = refl
range-all p low (suc n) h =
    and_from (p low) (list_all p (range_with_len (low + 1) n)) (h low (omega arith) (omega arith)) (range-all p (low + 1) n (λ k a b. h k (omega arith) (omega arith)))

pub range-at : (p : ℕ → Bool) (low n : ℕ) → list_all p (range_with_len low n) ≡ true → (k : ℕ) → low ≤ k → k < low + n → p k ≡ true
range-at p low zero e k a b = absurd (omega arith)
range-at p low (suc n) e k a b =
    let both = and_parts (p low) (list_all p (range_with_len (low + 1) n)) e in
    elim (cases_eq low k) [
      | inl same ↦ ap p (sym same) ∙ both.0
      | inr other ↦ range-at p (low + 1) n both.1 k (omega arith) (omega arith)
    ]

or_left : (a b : Bool) → a ≡ true → (a || b) ≡ true
or_left a b e = ap (λ c. c || b) e

or_right : (a b : Bool) → b ≡ true → (a || b) ≡ true
or_right true b e = refl
or_right false b e = e

pub range-any : (p : ℕ → Bool) (low n k : ℕ) → low ≤ k → k < low + n → p k ≡ true → list_any p (range_with_len low n) ≡ true
range-any p low zero k a b e = absurd (omega arith)
range-any p low (suc n) k a b e =
    elim (cases_eq low k) [
      | inl same ↦ or_left (p low) (list_any p (range_with_len (low + 1) n)) (ap p same ∙ e)
      | inr other ↦ or_right (p low) (list_any p (range_with_len (low + 1) n)) (range-any p (low + 1) n k (omega arith) (omega arith) e)
    ]

pub list_any-weaker : (p q : ℕ → Bool) → ((k : ℕ) → p k ≡ true → q k ≡ true) → (xs : List ℕ) → list_any p xs ≡ true → list_any q xs ≡ true
list_any-weaker p q h [] e = e
list_any-weaker p q h (x ∷ xs) e =
    elim (cases_Bool (p x)) [
      | inl own ↦ or_left (q x) (list_any q xs) (h x own)
      | inr none ↦ or_right (q x) (list_any q xs) (list_any-weaker p q h xs (ap (λ b. b || list_any p xs) (sym none) ∙ e))
    ]

pub list_all-weaker : (p q : ℕ → Bool) → ((k : ℕ) → p k ≡ true → q k ≡ true) → (xs : List ℕ) → list_all p xs ≡ true → list_all q xs ≡ true
list_all-weaker p q h [] e = refl
list_all-weaker p q h (x ∷ xs) e =
    let both = and_parts (p x) (list_all p xs) e in
    and_from (q x) (list_all q xs) (h x both.0) (list_all-weaker p q h xs both.1)

-- what holds of each number of a range that passes a test
pub picked-all : (P : ℕ → Type 0) (p : ℕ → Bool) (low n : ℕ) → ((k : ℕ) → low ≤ k → k < low + n → p k ≡ true → P k) → AllByRecursion P (filter p (range_with_len low n))
picked-all P p low zero h = tt
picked-all P p low (suc n) h =
    let rest = picked-all P p (low + 1) n (λ k a b e. h k (omega arith) (omega arith) e) in
    elim (p low) as (λ b. p low ≡ b → AllByRecursion P (cond b (low ∷ filter p (range_with_len (low + 1) n)) (filter p (range_with_len (low + 1) n)))) [
      | true ↦ λ e. (h low (omega arith) (omega arith) e, rest)
      | false ↦ λ e. rest
    ]
    refl

pub picked-few : (p : ℕ → Bool) (low n : ℕ) → length (filter p (range_with_len low n)) ≤ n
picked-few p low zero = omega arith
picked-few p low (suc n) =
    let rest = picked-few p (low + 1) n in
    elim (p low) as (λ b. length (cond b (low ∷ filter p (range_with_len (low + 1) n)) (filter p (range_with_len (low + 1) n))) ≤ suc n) [
      | true ↦ omega (arith, rest)
      | false ↦ omega (arith, rest)
    ]

pub contains-push : (xs : List ℕ) (x y : ℕ) → contains (xs ++ x ∷ []) y ≡ (contains xs y || x == y)
contains-push [] x y = none (x == y)
  where
    none : (b : Bool) → (b || false) ≡ (false || b)
    none b = grind arith
contains-push (z ∷ xs) x y = ap (λ b. z == y || b) (contains-push xs x y) ∙ assoc (z == y) (contains xs y) (x == y)
  where
    assoc : (a b c : Bool) → (a || (b || c)) ≡ ((a || b) || c)
    assoc a b c = grind arith

-- the element at which what is left begins
pub at_drop : (xs : List ℕ) (k y : ℕ) (ys : List ℕ) → drop k xs ≡ y ∷ ys → slice_index xs k ≡ y
at_drop [] zero y ys e = absurd cc
at_drop [] (suc k) y ys e = absurd cc
at_drop (x ∷ xs) zero y ys e = cc
at_drop (x ∷ xs) (suc k) y ys e = at_drop xs k y ys e

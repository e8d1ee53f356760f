-- The order of paths, and lists of paths that rise.
use Rattle.std.proofs.Common.{◌≡◌, ◌≢◌, ℕ, ◌<◌, ◌⊎◌, List, [], ◌∷◌, ◌++◌, drop, Bool, true, false, ◌&&◌, ◌||◌, ◌==◌, nat_lt, zero, suc, refl, sym, ap₂, subst, ◌∙◌, append-nil, arith, inl, inr}
use Rattle.std.specs.Prelude.{IsTrue}
use Rattle.std.specs.List.{AllByRecursion}
use Rattle.std.proofs.lemmas.Bool.{cases_lt, cases_Bool, both_ways}
use Rattle.std.proofs.lemmas.Bool.Decides.{nat_tests}
use Rattle.yew_laws.specs.Order.{comes_before}
use Rattle.yew_laws.proofs.Below.{AtOrBelow}
use Rattle.yew_laws.proofs.PathTests.{before-itself}
use Rattle.yew_check.specs.Marks.{Rises}

step-is : (j k : ℕ) (b : Bool) → (nat_lt j k || (j == k && b)) ≡ true → (j < k) ⊎ ((j ≡ k) × (b ≡ true))
step-is j k true e = by (nat_lt j k) refl
  where
    by : (c : Bool) → nat_lt j k ≡ c → (j < k) ⊎ ((j ≡ k) × (true ≡ true))
    by true f = inl (grind (arith, nat_tests))
    by false f = let same : j ≡ k = grind (arith, nat_tests) in inr (same, refl)
step-is j k false e = inl (grind (arith, nat_tests))

step-less : (j k : ℕ) (b : Bool) → j < k → (nat_lt j k || (j == k && b)) ≡ true
step-less j k b h = grind (arith, nat_tests)

step-same : (j k : ℕ) (b : Bool) → j ≡ k → b ≡ true → (nat_lt j k || (j == k && b)) ≡ true
step-same j k b h e = grind (arith, nat_tests)

pub before-trans : (p q r : List ℕ) → comes_before p q ≡ true → comes_before q r ≡ true → comes_before p r ≡ true
before-trans [] [] r e f = absurd (cc)
before-trans (j ∷ p) [] r e f = absurd (cc)
before-trans [] (k ∷ q) [] e f = absurd (cc)
before-trans (j ∷ p) (k ∷ q) [] e f = absurd (cc)
before-trans [] (k ∷ q) (l ∷ r) e f = refl
before-trans (j ∷ p) (k ∷ q) (l ∷ r) e f =
    elim (step-is j k (comes_before p q) e) [
      | inl less ↦ elim (step-is k l (comes_before q r) f) [
        | inl more ↦ step-less j l (comes_before p r) (omega arith)
        | inr same ↦ let s = same.0 in step-less j l (comes_before p r) (omega arith)
      ]
      | inr same ↦ elim (step-is k l (comes_before q r) f) [
        | inl more ↦ let s = same.0 in step-less j l (comes_before p r) (omega arith)
        | inr other ↦ step-same j l (comes_before p r) (same.0 ∙ other.0) (before-trans p q r same.1 other.1)
      ]
    ]

pub before-not : (p : List ℕ) → comes_before p p ≡ true → ⊥
before-not [] e = cc
before-not (k ∷ p) e = elim (step-is k k (comes_before p p) e) [ inl less ↦ absurd (omega arith) | inr same ↦ before-not p same.1 ]

-- p is a, or a comes before it
abbrev pub IsFrom : List ℕ → List ℕ → Type 0
IsFrom a p = (p ≡ a) ⊎ (comes_before a p ≡ true)

pub from-trans : (a p q : List ℕ) → IsFrom a p → IsFrom p q → IsFrom a q
from-trans a p q x y = elim x [
  | inl e ↦ subst (λ z. IsFrom z q) e y
  | inr less ↦ elim y [
    | inl f ↦ inr (subst (λ z. comes_before a z ≡ true) (sym f) less)
    | inr more ↦ inr (before-trans a p q less more)
  ]
]

pub from-both : (a p : List ℕ) → IsFrom a p → IsFrom p a → p ≡ a
from-both a p x y = elim x [
  | inl e ↦ e
  | inr less ↦ elim y [
    | inl f ↦ sym f
    | inr more ↦ absurd (before-not a (before-trans a p a less more))
  ]
]

pub from-below : (a p : List ℕ) → AtOrBelow a p → IsFrom a p
from-below a p b = by b.rest b.is
  where
    by : (rest : List ℕ) → p ≡ a ++ rest → IsFrom a p
    by [] e = inl (e ∙ append-nil a)
    by (i ∷ r) e = inr (subst (λ q. comes_before a q ≡ true) (sym e) (before-itself a i r))

pub Rises-append : (xs ys : List (List ℕ)) → Rises xs → Rises ys → AllByRecursion (λ x. AllByRecursion (λ y. IsTrue (comes_before x y)) ys) xs → Rises (xs ++ ys)
Rises-append [] ys r s a = s
Rises-append (x ∷ xs) ys r s a = (both x xs ys r.0 a.0, Rises-append xs ys r.1 s a.1)
  where
    both : (x : List ℕ) (us vs : List (List ℕ)) → AllByRecursion (λ p. IsTrue (comes_before x p)) us → AllByRecursion (λ p. IsTrue (comes_before x p)) vs → AllByRecursion (λ p. IsTrue (comes_before x p)) (us ++ vs)
    both x [] vs u v = v
    both x (w ∷ us) vs u v = (u.0, both x us vs u.1 v)

pub Rises-back : (xs ys : List (List ℕ)) → Rises (xs ++ ys) → Rises ys
Rises-back [] ys r = r
Rises-back (x ∷ xs) ys r = Rises-back xs ys r.1

pub Rises-drop : (i : ℕ) (xs : List (List ℕ)) → Rises xs → Rises (drop i xs)
Rises-drop zero xs r = r
Rises-drop (suc i) [] r = tt
Rises-drop (suc i) (x ∷ xs) r = Rises-drop i xs r.1

-- of two paths one comes before the other
pub before-total : (p q : List ℕ) → comes_before q p ≡ false → p ≢ q → comes_before p q ≡ true
before-total [] [] e ne = absurd (ne refl)
before-total [] (k ∷ q) e ne = refl
before-total (j ∷ p) [] e ne = absurd (cc)
before-total (j ∷ p) (k ∷ q) e ne =
    elim (cases_lt j k) [
      | inl less ↦ step-less j k (comes_before p q) less
      | inr le ↦ elim (cases_lt k j) [
        | inl more ↦ absurd (both_ways (comes_before (k ∷ q) (j ∷ p)) e (step-less k j (comes_before q p) more))
        | inr ge ↦
            let same : j ≡ k = omega arith in
            let behind : comes_before q p ≡ false = elim (cases_Bool (comes_before q p)) [ inl t ↦ absurd (both_ways (comes_before (k ∷ q) (j ∷ p)) e (step-same k j (comes_before q p) (sym same) t)) | inr f ↦ f ] in
            step-same j k (comes_before p q) same (before-total p q behind (λ f. ne (ap₂ (λ (n : ℕ) (ns : List ℕ). n ∷ ns) same f)))
      ]
    ]

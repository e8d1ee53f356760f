-- The test of symmetry tells whether both directions of each pair of cities weigh the same.
use Rattle.std.specs.Prelude.{◌≡◌, ◌↔◌, ℕ, ◌+◌, ◌<◌, ◌≤◌, Bool, true, false, ◌==◌, List, [], ◌∷◌, IsTrue, refl}
use Rattle.std.specs.List.{AllByRecursion, list_all, range_with_len}
use Rattle.std.proofs.Common.{zero, suc, ap, sym, subst, arith, inl, inr}
use Rattle.std.proofs.lemmas.Bool.{and_from, and_parts, cases_Bool, cases_eq, true≢false}
use Rattle.std.proofs.lemmas.Bool.Decides.{nat_tests}
use Rattle.yew_tsp.specs.Instance.{Instance, weight_between}
use Rattle.yew_tsp.specs.Lists.{range-all}
use Rattle.yew_span.specs.Bounds.{spanned_tree, span_tree}
use Rattle.yew_span.specs.Span.{IsSymmetric, is_symmetric}

list_all-from : (p : ℕ → Bool) (xs : List ℕ) → AllByRecursion (λ x. p x ≡ true) xs → list_all p xs ≡ true
list_all-from p [] all = refl
list_all-from p (x ∷ xs) all = and_from (p x) (list_all p xs) all.0 (list_all-from p xs all.1)

range-at : (p : ℕ → Bool) (a n k : ℕ) → a ≤ k → k < a + n → list_all p (range_with_len a n) ≡ true → p k ≡ true
range-at p a zero k low high all = absurd (omega (arith, low, high))
range-at p a (suc n) k low high all =
    let parts = and_parts (p a) (list_all p (range_with_len (a + 1) n)) all in
    elim (cases_eq a k) [
      | inl same ↦ subst (λ c. p c ≡ true) same parts.0
      | inr apart ↦ range-at p (a + 1) n k (omega (arith, low, apart)) (omega (arith, high)) parts.1
    ]

module _ (instance : Instance) where
  weighs_alike : ℕ → ℕ → Bool
  weighs_alike i j = weight_between instance i j == weight_between instance j i

  alike-from : (a b : ℕ) → a ≡ b → (a == b) ≡ true
  alike-from a b e = grind (arith, nat_tests)

  alike-to : (a b : ℕ) → (a == b) ≡ true → a ≡ b
  alike-to a b e = grind (arith, nat_tests)

  symmetric-from : IsSymmetric instance → is_symmetric instance ≡ true
  symmetric-from same =
      list_all-from _ (range_with_len 1 instance.cities)
      (range-all _ 1 instance.cities
      (λ i low high. list_all-from _ (range_with_len 1 instance.cities)
      (range-all _ 1 instance.cities
      (λ j from to. alike-from (weight_between instance i j) (weight_between instance j i) (same i j low (omega (arith, high)) from (omega (arith, to)))))))

  symmetric-to : is_symmetric instance ≡ true → IsSymmetric instance
  symmetric-to is i j low high from to =
      alike-to (weight_between instance i j) (weight_between instance j i)
      (range-at _ 1 instance.cities j from (omega (arith, to)) (range-at _ 1 instance.cities i low (omega (arith, high)) is))

  pub is_symmetric-from : (answer : Bool) → (IsTrue answer ↔ IsSymmetric instance) → answer ≡ is_symmetric instance
  is_symmetric-from true is = sym (symmetric-from (is.0 refl))
  is_symmetric-from false is =
      elim (cases_Bool (is_symmetric instance)) [
        | inl e ↦ absurd (true≢false (sym (is.1 (symmetric-to e))))
        | inr e ↦ sym e
      ]

  -- so the tree of the instance is that of an answer
  pub span_tree-is : (answer : Bool) → (IsTrue answer ↔ IsSymmetric instance) → span_tree instance ≡ spanned_tree answer instance
  span_tree-is answer is = ap (λ b. spanned_tree b instance) (sym (is_symmetric-from answer is))

-- The order of paths: no path comes before itself, of two at most one comes before the other, and what comes before a path comes before all below it.
use Rattle.std.proofs.Common.{◌≡◌, ℕ, ◌<◌, ◌⊎◌, List, [], ◌∷◌, ◌++◌, Bool, true, false, ◌&&◌, ◌||◌, ◌==◌, nat_lt, refl, sym, inl, inr, arith}
use Rattle.std.specs.Prelude.{IsTrue}
use Rattle.std.proofs.lemmas.Bool.Decides.{nat_tests}
use Rattle.yew_laws.specs.Order.{comes_before, lies_below}

not_true : false ≡ true → ⊥
not_true e = cc

-- how one path comes before another: by a smaller first number, or by an equal one and the rest
cases : (j k : ℕ) (b : Bool) → (nat_lt j k || (j == k && b)) ≡ true → (j < k) ⊎ ((j ≡ k) × (b ≡ true))
cases j k true e = grind (arith, nat_tests)
cases j k false e = grind (arith, nat_tests)

smaller : (j k : ℕ) (b : Bool) → j < k → (nat_lt j k || (j == k && b)) ≡ true
smaller j k b h = grind (arith, nat_tests)

same_first : (j : ℕ) (b : Bool) → b ≡ true → (nat_lt j j || (j == j && b)) ≡ true
same_first j true e = grind (arith, nat_tests)
same_first j false e = absurd (not_true e)

pub before-not_itself : (p : List ℕ) → IsTrue (comes_before p p) → ⊥
before-not_itself [] h = not_true h
before-not_itself (k ∷ p) h = by (before-not_itself p) (cases k k (comes_before p p) h)
  where
    by : (IsTrue (comes_before p p) → ⊥) → (k < k) ⊎ ((k ≡ k) × (comes_before p p ≡ true)) → ⊥
    by none (inl less) = absurd (omega arith)
    by none (inr rest) = none rest.1

pub before-not_both : (p q : List ℕ) → IsTrue (comes_before p q) → IsTrue (comes_before q p) → ⊥
before-not_both [] q h g = not_true g
before-not_both (j ∷ p) [] h g = not_true h
before-not_both (j ∷ p) (k ∷ q) h g = by (before-not_both p q) (cases j k (comes_before p q) h) (cases k j (comes_before q p) g)
  where
    by : (IsTrue (comes_before p q) → IsTrue (comes_before q p) → ⊥) → (j < k) ⊎ ((j ≡ k) × (comes_before p q ≡ true)) → (k < j) ⊎ ((k ≡ j) × (comes_before q p ≡ true)) → ⊥
    by none (inl a) (inl b) = absurd (omega arith)
    by none (inl a) (inr b) = let e = b.0 in absurd (omega arith)
    by none (inr a) (inl b) = let e = a.0 in absurd (omega arith)
    by none (inr a) (inr b) = none a.1 b.1

pub before-below : (p q rest : List ℕ) → IsTrue (comes_before p q) → IsTrue (comes_before p (q ++ rest))
before-below p [] rest h = absurd (not_true h)
before-below [] (k ∷ q) rest h = refl
before-below (j ∷ p) (k ∷ q) rest h = by (before-below p q rest) (cases j k (comes_before p q) h)
  where
    by : (IsTrue (comes_before p q) → IsTrue (comes_before p (q ++ rest))) → (j < k) ⊎ ((j ≡ k) × (comes_before p q ≡ true)) → IsTrue (comes_before (j ∷ p) ((k ∷ q) ++ rest))
    by below (inl less) = smaller j k (comes_before p (q ++ rest)) less
    by below (inr same) = rw (same.0) (same_first k (comes_before p (q ++ rest)) (below same.1))

pub before-same_first : (k : ℕ) (p q : List ℕ) → IsTrue (comes_before p q) → IsTrue (comes_before (k ∷ p) (k ∷ q))
before-same_first k p q h = same_first k (comes_before p q) h

pub before-smaller_first : (j k : ℕ) (p q : List ℕ) → j < k → IsTrue (comes_before (j ∷ p) (k ∷ q))
before-smaller_first j k p q less = smaller j k (comes_before p q) less

-- what does not lie below a path that it comes after comes after all below that path
pub before-both-below : (p q rest more : List ℕ) → IsTrue (comes_before p q) → lies_below p q ≡ false → IsTrue (comes_before (p ++ rest) (q ++ more))
before-both-below p [] rest more h not = absurd (not_true h)
before-both-below [] (k ∷ q) rest more h not = absurd (not_true (sym not))
before-both-below (j ∷ p) (k ∷ q) rest more h not = by (before-both-below p q rest more) (cases j k (comes_before p q) h)
  where
    inner : (j k : ℕ) (b : Bool) → j ≡ k → (j == k && b) ≡ false → b ≡ false
    inner j k true same e = grind (arith, nat_tests)
    inner j k false same e = refl

    by : (IsTrue (comes_before p q) → lies_below p q ≡ false → IsTrue (comes_before (p ++ rest) (q ++ more))) → (j < k) ⊎ ((j ≡ k) × (comes_before p q ≡ true)) → IsTrue (comes_before ((j ∷ p) ++ rest) ((k ∷ q) ++ more))
    by below (inl less) = smaller j k (comes_before (p ++ rest) (q ++ more)) less
    by below (inr same) = rw (same.0) (same_first k (comes_before (p ++ rest) (q ++ more)) (below same.1 (inner j k (lies_below p q) same.0 not)))

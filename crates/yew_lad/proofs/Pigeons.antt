-- A map that takes different numbers that pass a test to different numbers that pass another.
use Rattle.std.proofs.Common.{◌≡◌, ◌≢◌, ℕ, zero, suc, ◌+◌, ◌<◌, ◌≤◌, Bool, true, false, cond, not, ◌&&◌, ◌==◌, List, ◌∷◌, length, ap, ap₂, sym, ◌∙◌, inl, inr, arith}
use Rattle.std.specs.List.{filter, range_with_len}
use Rattle.std.proofs.lemmas.Bool.{and_from, cases_eq, cases_Bool}
use Rattle.std.proofs.lemmas.Bool.Decides.{nat_tests}
use Rattle.yew_lad.proofs.Ranges.{filter-agree, count-more}

equal : (j k : ℕ) → j ≡ k → (j == k) ≡ true
equal j k e = grind (arith, nat_tests, e)

unequal : (j k : ℕ) → j ≢ k → (j == k) ≡ false
unequal j k e = grind (arith, nat_tests, e)

length-cond : (b : Bool) (x : ℕ) (xs : List ℕ) → length (cond b (x ∷ xs) xs) ≡ cond b 1 0 + length xs
length-cond true x xs = omega arith
length-cond false x xs = omega arith

-- one number fewer
remove-one : (q : ℕ → Bool) (t low n : ℕ) → low ≤ t → t < low + n → q t ≡ true → length (filter q (range_with_len low n)) ≡ suc (length (filter (λ x. q x && not (x == t)) (range_with_len low n)))
remove-one q t low zero a b e = absurd (omega arith)
remove-one q t low (suc n) a b e =
    let left = filter q (range_with_len (low + 1) n) in
    let right = filter (λ x. q x && not (x == t)) (range_with_len (low + 1) n) in
    let l = length-cond (q low) low left in
    let r = length-cond (q low && not (low == t)) low right in
    elim (cases_eq low t) [
      | inl same ↦
          let one : ◌≡◌ {A = ℕ} (cond (q low) 1 0) 1 = ap (λ b. cond b 1 0) (ap q same ∙ e) in
          let none : ◌≡◌ {A = ℕ} (cond (q low && not (low == t)) 1 0) 0 = ap (λ b. cond b 1 0) (ap₂ (λ b c. b && not c) (ap q same ∙ e) (equal low t same)) in
          let rest = ap length (filter-agree q (λ x. q x && not (x == t)) (low + 1) n (λ x c d. kept (q x) (x == t) (unequal x t (omega arith)))) in
          omega (arith, l, r, one, none, rest)
      | inr other ↦
          let own : ◌≡◌ {A = ℕ} (cond (q low && not (low == t)) 1 0) (cond (q low) 1 0) = ap (λ b. cond b 1 0) (sym (kept (q low) (low == t) (unequal low t other))) in
          let rest = remove-one q t (low + 1) n (omega arith) (omega arith) e in
          omega (arith, l, r, own, rest)
    ]
  where
    kept : (a b : Bool) → b ≡ false → a ≡ (a && not b)
    kept a b e = grind (arith, e)

-- there are no more that pass the one than that pass the other
pub no-more : (p q : ℕ → Bool) (g : ℕ → ℕ) (n m : ℕ) → ((u : ℕ) → u < n → p u ≡ true → (g u < m) × (q (g u) ≡ true)) → ((u w : ℕ) → u < n → w < n → g u ≡ g w → u ≡ w) → length (filter p (range_with_len 0 n)) ≤ length (filter q (range_with_len 0 m))
no-more p q g zero m into apart = omega arith
no-more p q g (suc n) m into apart =
    let next : suc n ≡ n + 1 = omega arith in
    let size = ap (λ k. length (filter p (range_with_len 0 k))) next ∙ count-more p n in
    elim (cases_Bool (p n)) [
      | inl own ↦
          let here = into n (omega arith) own in
          let one : ◌≡◌ {A = ℕ} (cond (p n) 1 0) 1 = ap (λ b. cond b 1 0) own in
          let fewer = remove-one q (g n) 0 m (omega arith) (omega (arith, here.0)) here.1 in
          let rest = no-more p (λ x. q x && not (x == g n)) g n m
          (λ u l e.
          let there = into u (omega arith) e in
          let other : g u ≢ g n = λ f. let same = apart u n (omega arith) (omega arith) f in absurd (omega arith) in
          (there.0, and_from (q (g u)) (not (g u == g n)) there.1 (ap not (unequal (g u) (g n) other))))
          (λ u w l r e. apart u w (omega arith) (omega arith) e) in
          omega (arith, size, one, fewer, rest)
      | inr none ↦
          let zero_more : ◌≡◌ {A = ℕ} (cond (p n) 1 0) 0 = ap (λ b. cond b 1 0) none in
          let rest = no-more p q g n m (λ u l e. into u (omega arith) e) (λ u w l r e. apart u w (omega arith) (omega arith) e) in
          omega (arith, size, zero_more, rest)
    ]

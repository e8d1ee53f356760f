-- The fold by depth counts the members at each depth.
use Rattle.std.proofs.Common.{◌≡◌, ℕ, zero, suc, ◌+◌, ◌<◌, cond, List, [], ◌∷◌, map, length, replicate, slice_set, ◌==◌, refl, ap, ap₂, sym, ◌∙◌, arith}
use Rattle.std.specs.List.{range_with_len}
use Rattle.std.proofs.lemmas.List.Sums.{sum_by-cons}
use Rattle.std.proofs.lemmas.Bool.Decides.{nat_tests}
use Rattle.yew_laws.specs.Fold.{fold_of, of_member}
use Rattle.yew_laws.specs.Tree.{Member}
use Rattle.yew_kinds.specs.DepthCounts.{saturated, zeros, one_at, joined_counts, members_at}

-- 1 at a depth, and 0 elsewhere
abbrev one : ℕ → ℕ → ℕ
one depth k = cond (depth == k) 1 0

abbrev nothing : ℕ → ℕ
nothing k = 0

replicate-range : (a n : ℕ) → replicate {A = ℕ} n 0 ≡ map nothing (range_with_len a n)
replicate-range a zero = refl
replicate-range a (suc n) = ap (λ (xs : List ℕ). 0 ∷ xs) (replicate-range (a + 1) n)

-- the list from place a on of a one at a place before it
ones-past : (a n at : ℕ) → at < a → replicate {A = ℕ} n 0 ≡ map (one at) (range_with_len a n)
ones-past a zero at h = refl
ones-past a (suc n) at h =
    let none : ◌≡◌ {A = ℕ} 0 (one at a) = grind (arith, nat_tests) in
    ap₂ (λ x xs. x ∷ xs) none (ones-past (a + 1) n at (omega arith))

ones-range : (a n at : ℕ) → slice_set (replicate {A = ℕ} n 0) at 1 ≡ map (one (a + at)) (range_with_len a n)
ones-range a zero at = refl
ones-range a (suc n) zero =
    let here : ◌≡◌ {A = ℕ} 1 (one (a + 0) a) = grind (arith, nat_tests) in
    ap₂ (λ x xs. x ∷ xs) here (ones-past (a + 1) n (a + 0) (omega arith))
ones-range a (suc n) (suc at) =
    let none : ◌≡◌ {A = ℕ} 0 (one (a + suc at) a) = grind (arith, nat_tests) in
    let same : a + 1 + at ≡ a + suc at = omega arith in
    ap₂ (λ x xs. x ∷ xs) none (ones-range (a + 1) n at ∙ ap (λ k. map (one k) (range_with_len (a + 1) n)) same)

joined-map : (f g : ℕ → ℕ) (ks : List ℕ) → joined_counts (map f ks) (map g ks) ≡ map (λ k. saturated (f k + g k)) ks
joined-map f g [] = refl
joined-map f g (k ∷ ks) = ap (λ xs. saturated (f k + g k) ∷ xs) (joined-map f g ks)

map-agree : (f g : ℕ → ℕ) → ((k : ℕ) → f k ≡ g k) → (ks : List ℕ) → map f ks ≡ map g ks
map-agree f g agree [] = refl
map-agree f g agree (k ∷ ks) = ap₂ (λ x xs. x ∷ xs) (agree k) (map-agree f g agree ks)

one_more : (a n : ℕ) → saturated (a + saturated n) ≡ saturated (a + n)
one_more a n = omega arith

module _ {N : Type 0} (depths : ℕ) where
  -- the fold by depth of a list of members
  pub fold-members_at : (ms : List (Member N)) → fold_of joined_counts (zeros depths) (of_member (λ (_ : N) depth. one_at depths depth)) ms ≡ map (λ depth. saturated (members_at depth ms)) (range_with_len 0 (depths + 1))
  fold-members_at [] = replicate-range 0 (depths + 1)
  fold-members_at (m ∷ ms) =
      let ks = range_with_len 0 (depths + 1) in
      let start : 0 + length m.path ≡ length m.path = omega arith in
      ap₂ joined_counts (ones-range 0 (depths + 1) (length m.path) ∙ ap (λ k. map (one k) ks) start) (fold-members_at ms)
      ∙ joined-map (one (length m.path)) (λ depth. saturated (members_at depth ms)) ks
      ∙ map-agree (λ k. saturated (one (length m.path) k + saturated (members_at k ms))) (λ k. saturated (members_at k (m ∷ ms)))
      (λ k. one_more (one (length m.path) k) (members_at k ms) ∙ ap saturated (sym (sum_by-cons (λ (x : Member N). one (length x.path) k) m ms))) ks

-- Counts by depth are a commutative monoid.
use Rattle.std.proofs.Common.{◌≡◌, ℕ, zero, suc, ◌+◌, ◌<◌, ◌^◌, List, [], ◌∷◌, length, replicate, slice_set, refl, ap, ap₂, sym, ◌∙◌, arith, length-set}
use Rattle.std.proofs.lemmas.List.{length-replicate}
use Rattle.std.specs.List.{AllByRecursion}
use Rattle.yew_laws.specs.Fold.{IsTally}
use Rattle.yew_kinds.specs.DepthCounts.{saturated, HasCounts, zeros, one_at, joined_counts}

abbrev Small : List ℕ → Type 0
Small counts = AllByRecursion (λ count. count < 2 ^ 64) counts

pub length-joined_counts : (xs ys : List ℕ) → length xs ≡ length ys → length (joined_counts xs ys) ≡ length xs
length-joined_counts [] ys e = refl
length-joined_counts (x ∷ xs) [] e = absurd (omega (arith, e))
length-joined_counts (x ∷ xs) (y ∷ ys) e = ap suc (length-joined_counts xs ys (omega (arith, e)))

joined_counts-small : (xs ys : List ℕ) → Small (joined_counts xs ys)
joined_counts-small [] ys = tt
joined_counts-small (x ∷ xs) [] = tt
joined_counts-small (x ∷ xs) (y ∷ ys) = (omega arith, joined_counts-small xs ys)

pub joined_counts-comm : (xs ys : List ℕ) → length xs ≡ length ys → joined_counts xs ys ≡ joined_counts ys xs
joined_counts-comm [] [] e = refl
joined_counts-comm [] (y ∷ ys) e = absurd (omega (arith, e))
joined_counts-comm (x ∷ xs) [] e = absurd (omega (arith, e))
joined_counts-comm (x ∷ xs) (y ∷ ys) e =
    let here : saturated (x + y) ≡ saturated (y + x) = omega arith in
    ap₂ (λ z zs. z ∷ zs) here (joined_counts-comm xs ys (omega (arith, e)))

joined_counts-assoc : (xs ys zs : List ℕ) → length xs ≡ length ys → length ys ≡ length zs → joined_counts (joined_counts xs ys) zs ≡ joined_counts xs (joined_counts ys zs)
joined_counts-assoc [] ys zs e f = refl
joined_counts-assoc (x ∷ xs) [] zs e f = absurd (omega (arith, e))
joined_counts-assoc (x ∷ xs) (y ∷ ys) [] e f = absurd (omega (arith, f))
joined_counts-assoc (x ∷ xs) (y ∷ ys) (z ∷ zs) e f =
    let here : saturated (saturated (x + y) + z) ≡ saturated (x + saturated (y + z)) = omega arith in
    ap₂ (λ w ws. w ∷ ws) here (joined_counts-assoc xs ys zs (omega (arith, e)) (omega (arith, f)))

pub joined_counts-zeros : (n : ℕ) (xs : List ℕ) → length xs ≡ n → Small xs → joined_counts (replicate {A = ℕ} n 0) xs ≡ xs
joined_counts-zeros zero [] e s = refl
joined_counts-zeros zero (x ∷ xs) e s = absurd (omega (arith, e))
joined_counts-zeros (suc n) [] e s = absurd (omega (arith, e))
joined_counts-zeros (suc n) (x ∷ xs) e s =
    let here : saturated (0 + x) ≡ x = omega (arith, s.0) in
    ap₂ (λ z zs. z ∷ zs) here (joined_counts-zeros n xs (omega (arith, e)) s.1)

replicate-small : (n : ℕ) → Small (replicate {A = ℕ} n 0)
replicate-small zero = tt
replicate-small (suc n) = (omega arith, replicate-small n)

set-small : (xs : List ℕ) (i x : ℕ) → x < 2 ^ 64 → Small xs → Small (slice_set xs i x)
set-small [] i x h s = tt
set-small (y ∷ ys) zero x h s = (h, s.1)
set-small (y ∷ ys) (suc i) x h s = (s.0, set-small ys i x h s.1)

-- the sums that fit are a commutative monoid
pub counts-tally : (depths : ℕ) → IsTally (HasCounts depths) joined_counts (zeros depths)
counts-tally depths = record {
  none_fits = record { one_each = length-replicate (depths + 1) 0; small = replicate-small (depths + 1) };
  join_fits = λ a b fit_a fit_b. record {
    one_each = length-joined_counts a b (fit_a.one_each ∙ sym fit_b.one_each) ∙ fit_a.one_each;
    small = joined_counts-small a b;
  };
  assoc = λ a b c fit_a fit_b fit_c. joined_counts-assoc a b c (fit_a.one_each ∙ sym fit_b.one_each) (fit_b.one_each ∙ sym fit_c.one_each);
  comm = λ a b fit_a fit_b. joined_counts-comm a b (fit_a.one_each ∙ sym fit_b.one_each);
  unit = λ a fit_a. joined_counts-zeros (depths + 1) a fit_a.one_each fit_a.small;
}

-- the sum of one node fits
pub one_at-fits : (depths depth : ℕ) → HasCounts depths (one_at depths depth)
one_at-fits depths depth = record {
  one_each = length-set (zeros depths) depth 1 ∙ length-replicate (depths + 1) 0;
  small = set-small (zeros depths) depth 1 (omega arith) (replicate-small (depths + 1));
}

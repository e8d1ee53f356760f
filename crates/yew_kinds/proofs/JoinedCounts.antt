-- Counts that are joined one after another, and one count alone.
use Rattle.std.proofs.Common.{◌≡◌, ℕ, zero, suc, ◌+◌, ◌<◌, ◌^◌, List, [], ◌∷◌, ◌++◌, length, replicate, slice_set, slice_index, take, drop, refl, ap, ap₂, sym, ◌∙◌, arith}
use Rattle.std.proofs.lemmas.List.{length-replicate}
use Rattle.std.specs.List.{AllByRecursion}
use Rattle.yew_kinds.specs.DepthCounts.{saturated, joined_counts}
use Rattle.yew_kinds.specs.DepthLaws.{joined_counts-comm, joined_counts-zeros}

-- the first counts of two lists are joined, and the others are those of the first list
abbrev pub partly_joined : ℕ → List ℕ → List ℕ → List ℕ
partly_joined k xs ys = joined_counts (take k xs) (take k ys) ++ drop k xs

pub partly_joined-more : (k : ℕ) (xs ys : List ℕ) → length xs ≡ length ys → k < length xs →
    slice_set (partly_joined k xs ys) k (saturated (slice_index (partly_joined k xs ys) k + slice_index ys k)) ≡ partly_joined (suc k) xs ys
partly_joined-more k [] ys e h = absurd (omega arith)
partly_joined-more k (x ∷ xs) [] e h = absurd (omega (arith, e))
partly_joined-more zero (x ∷ xs) (y ∷ ys) e h = refl
partly_joined-more (suc k) (x ∷ xs) (y ∷ ys) e h = ap (λ zs. saturated (x + y) ∷ zs) (partly_joined-more k xs ys (omega (arith, e)) (omega (arith, h)))

pub partly_joined-all : (xs ys : List ℕ) → length xs ≡ length ys → partly_joined (length xs) xs ys ≡ joined_counts xs ys
partly_joined-all [] [] e = refl
partly_joined-all [] (y ∷ ys) e = absurd (omega (arith, e))
partly_joined-all (x ∷ xs) [] e = absurd (omega (arith, e))
partly_joined-all (x ∷ xs) (y ∷ ys) e = ap (λ zs. saturated (x + y) ∷ zs) (partly_joined-all xs ys (omega (arith, e)))

-- one node more is one count more
pub joined_counts-one_at : (n : ℕ) (xs : List ℕ) (depth : ℕ) → length xs ≡ n → AllByRecursion (λ count. count < 2 ^ 64) xs →
    joined_counts xs (slice_set (replicate {A = ℕ} n 0) depth 1) ≡ slice_set xs depth (saturated (slice_index xs depth + 1))
joined_counts-one_at n [] depth e s = refl
joined_counts-one_at zero (x ∷ xs) depth e s = absurd (omega (arith, e))
joined_counts-one_at (suc n) (x ∷ xs) zero e s =
    let rest : length xs ≡ n = omega (arith, e) in
    ap (λ zs. saturated (x + 1) ∷ zs) (joined_counts-comm xs (replicate {A = ℕ} n 0) (rest ∙ sym (length-replicate n 0)) ∙ joined_counts-zeros n xs rest s.1)
joined_counts-one_at (suc n) (x ∷ xs) (suc depth) e s =
    let here : saturated (x + 0) ≡ x = omega (arith, s.0) in
    ap₂ (λ z zs. z ∷ zs) here (joined_counts-one_at n xs depth (omega (arith, e)) s.1)

pub length-partly_joined : (k : ℕ) (xs ys : List ℕ) → length xs ≡ length ys → length (partly_joined k xs ys) ≡ length xs
length-partly_joined zero xs ys e = refl
length-partly_joined (suc k) [] ys e = refl
length-partly_joined (suc k) (x ∷ xs) [] e = absurd (omega (arith, e))
length-partly_joined (suc k) (x ∷ xs) (y ∷ ys) e = ap suc (length-partly_joined k xs ys (omega (arith, e)))

-- How many numbers a matrix has.
use Rattle.std.proofs.Common.{◌≡◌, ℕ, zero, suc, ◌+◌, ◌-◌, ◌*◌, ◌/◌, List, [], ◌∷◌, length, map, ◌<◌, ◌≤◌, refl, ap, sym, ◌∙◌, arith, inl, inr}
use Rattle.std.specs.Prelude.{flat_map}
use Rattle.std.specs.List.{AllByRecursion, range_with_len, sum_by}
use Rattle.std.proofs.lemmas.Bool.{cases_eq}
use Rattle.std.proofs.lemmas.List.Sums.{sum_by-cons}
use Rattle.std.proofs.lemmas.List.{length-append}
use Rattle.yew_tsp.specs.declared.header.Format.{Format}
use Rattle.yew_tsp.specs.declared.header.Format.TheVariants.{FullMatrix, UpperRow, LowerRow, UpperDiagRow, LowerDiagRow}
use Rattle.yew_tsp.specs.Lists.{length-range, range-all}
use Rattle.yew_tsp.specs.Matrices.{first_column, row_length, places, matrix_count}

-- the sum of the lengths of rows from a on
unfoldable pub total : (ℕ → ℕ) → ℕ → ℕ → ℕ
total w a zero = 0
total w a (suc k) = w a + total w (a + 1) k

length-pairs : (i : ℕ) (js : List ℕ) → length {A = ℕ × ℕ} (map (λ j. (i, j)) js) ≡ length js
length-pairs i [] = refl
length-pairs i (j ∷ js) = ap suc (length-pairs i js)

rows_length : (format : Format) (n : ℕ) (w : ℕ → ℕ) → ((i : ℕ) → length (range_with_len (first_column format i) (row_length format n i)) ≡ w i) → (a k : ℕ) → length {A = ℕ × ℕ} (flat_map (λ i. map (λ j. (i, j)) (range_with_len (first_column format i) (row_length format n i))) (range_with_len a k)) ≡ total w a k
unfolding total
rows_length format n w each a zero = refl
rows_length format n w each a (suc k) =
    let f : ℕ → List (ℕ × ℕ) = λ i. map (λ j. (i, j)) (range_with_len (first_column format i) (row_length format n i)) in
    let one : length (f a) ≡ w a = length-pairs a (range_with_len (first_column format a) (row_length format n a)) ∙ each a in
    let more : length (flat_map f (range_with_len (a + 1) k)) ≡ total w (a + 1) k = rows_length format n w each (a + 1) k in
    length-append (f a) (flat_map f (range_with_len (a + 1) k)) ∙ (let e : length (f a) + length (flat_map f (range_with_len (a + 1) k)) ≡ w a + total w (a + 1) k = omega arith in e)

full : (n a k : ℕ) → total (λ i. n) a k ≡ k * n
unfolding total
full n a zero = let e : 0 ≡ 0 * n = omega arith in e
full n a (suc k) = let h : total (λ i. n) (a + 1) k ≡ k * n = full n (a + 1) k in let e : n + total (λ i. n) (a + 1) k ≡ suc k * n = omega arith in e

lower : (a k : ℕ) → 2 * total (λ i. i - 1) (a + 1) k + k ≡ k * k + 2 * (k * a)
unfolding total
lower a zero = let e : 2 * 0 + 0 ≡ 0 * 0 + 2 * (0 * a) = omega arith in e
lower a (suc k) =
    let h : 2 * total (λ i. i - 1) (a + 1 + 1) k + k ≡ k * k + 2 * (k * (a + 1)) = lower (a + 1) k in
    let e : 2 * (a + 1 - 1 + total (λ i. i - 1) (a + 1 + 1) k) + suc k ≡ suc k * suc k + 2 * (suc k * a) = omega arith in e

lower_diag : (a k : ℕ) → 2 * total (λ i. i) (a + 1) k ≡ k * k + k + 2 * (k * a)
unfolding total
lower_diag a zero = let e : 2 * 0 ≡ 0 * 0 + 0 + 2 * (0 * a) = omega arith in e
lower_diag a (suc k) =
    let h : 2 * total (λ i. i) (a + 1 + 1) k ≡ k * k + k + 2 * (k * (a + 1)) = lower_diag (a + 1) k in
    let e : 2 * (a + 1 + total (λ i. i) (a + 1 + 1) k) ≡ suc k * suc k + suc k + 2 * (suc k * a) = omega arith in e

upper : (n a k : ℕ) → a + k ≡ n → 2 * total (λ i. n - i) (a + 1) k + k ≡ k * k
unfolding total
upper n a zero e = let f : 2 * 0 + 0 ≡ 0 * 0 = omega arith in f
upper n a (suc k) e =
    let h : 2 * total (λ i. n - i) (a + 1 + 1) k + k ≡ k * k = upper n (a + 1) k (omega arith) in
    let first : n - (a + 1) ≡ k = omega arith in
    let f : 2 * (n - (a + 1) + total (λ i. n - i) (a + 1 + 1) k) + suc k ≡ suc k * suc k = omega arith in f

upper_diag : (n a k : ℕ) → a + k ≡ n → 2 * total (λ i. n + 1 - i) (a + 1) k ≡ k * k + k
unfolding total
upper_diag n a zero e = let f : 2 * 0 ≡ 0 * 0 + 0 = omega arith in f
upper_diag n a (suc k) e =
    let h : 2 * total (λ i. n + 1 - i) (a + 1 + 1) k ≡ k * k + k = upper_diag n (a + 1) k (omega arith) in
    let first : n + 1 - (a + 1) ≡ suc k = omega arith in
    let f : 2 * (n + 1 - (a + 1) + total (λ i. n + 1 - i) (a + 1 + 1) k) ≡ suc k * suc k + suc k = omega arith in f

half : (n s : ℕ) → 2 * s + n ≡ n * n → s ≡ n * (n - 1) / 2
half zero s e = let f : s ≡ 0 * (0 - 1) / 2 = omega arith in f
half (suc m) s e = let g : suc m - 1 ≡ m = omega arith in let p : suc m * (suc m - 1) ≡ suc m * m = ap (λ (k : ℕ). suc m * k) g in let q : 2 * s ≡ suc m * m = omega arith in let f : s ≡ suc m * (suc m - 1) / 2 = omega arith in f

half_more : (n s : ℕ) → 2 * s ≡ n * n + n → s ≡ n * (n + 1) / 2
half_more n s e = let p : n * (n + 1) ≡ n * n + n = omega arith in omega arith

-- The table's numbers are as many as its last column says.
pub how_many : (format : Format) (n : ℕ) → length (places format n) ≡ matrix_count format n
how_many FullMatrix n = rows_length FullMatrix n (λ i. n) (λ i. length-range 1 n) 1 n ∙ full n 1 n
how_many UpperRow n = rows_length UpperRow n (λ i. n - i) (λ i. length-range (i + 1) (n - i)) 1 n ∙ half n (total (λ i. n - i) 1 n) (let h : 2 * total (λ i. n - i) (0 + 1) n + n ≡ n * n = upper n 0 n (omega arith) in h)
how_many LowerRow n = rows_length LowerRow n (λ i. i - 1) (λ i. length-range 1 (i - 1)) 1 n ∙ half n (total (λ i. i - 1) 1 n) (let h : 2 * total (λ i. i - 1) (0 + 1) n + n ≡ n * n + 2 * (n * 0) = lower 0 n in omega arith)
how_many UpperDiagRow n = rows_length UpperDiagRow n (λ i. n + 1 - i) (λ i. length-range i (n + 1 - i)) 1 n ∙ half_more n (total (λ i. n + 1 - i) 1 n) (let h : 2 * total (λ i. n + 1 - i) (0 + 1) n ≡ n * n + n = upper_diag n 0 n (omega arith) in h)
how_many LowerDiagRow n = rows_length LowerDiagRow n (λ i. i) (λ i. length-range 1 i) 1 n ∙ half_more n (total (λ i. i) 1 n) (let h : 2 * total (λ i. i) (0 + 1) n ≡ n * n + n + 2 * (n * 0) = lower_diag 0 n in omega arith)

-- the sum of the lengths of all rows
pub count-total : (format : Format) (n : ℕ) → matrix_count format n ≡ total (row_length format n) 1 n
count-total format n =
    sym (how_many format n) ∙ rows_length format n (row_length format n) (λ i. length-range (first_column format i) (row_length format n i)) 1 n

pub total-sum : (w : ℕ → ℕ) (a k : ℕ) → total w a k ≡ sum_by w (range_with_len a k)
unfolding total
total-sum w a zero = refl
total-sum w a (suc k) = let rest = total-sum w (a + 1) k in let cons = sum_by-cons w a (range_with_len (a + 1) k) in omega (arith, rest, cons)

-- a row and those before it
pub total-below : (w : ℕ → ℕ) (a k i : ℕ) → a ≤ i → i < a + k → total w a (i - a) + w i ≤ total w a k
unfolding total
total-below w a zero i l m = absurd (omega arith)
total-below w a (suc k) i l m =
    elim (cases_eq a i) [
      | inl same ↦ let none : total w a (i - a) ≡ 0 = ap (total w a) (gone i same) in let own = ap w same in omega (arith, none, own)
      | inr other ↦
          let later : total w a (i - a) ≡ w a + total w (a + 1) (i - (a + 1)) = ap (total w a) (step i (omega arith)) in
          let rest = total-below w (a + 1) k i (omega arith) (omega arith) in
          omega (arith, later, rest)
    ]
  where
    gone : (i : ℕ) → a ≡ i → i - a ≡ 0
    gone i e = omega arith

    step : (i : ℕ) → a < i → i - a ≡ suc (i - (a + 1))
    step i l = omega arith

sum_by-most : (f : ℕ → ℕ) (m : ℕ) (xs : List ℕ) → AllByRecursion (λ x. f x ≤ m) xs → sum_by f xs ≤ length xs * m
sum_by-most f m [] a = omega arith
sum_by-most f m (x ∷ xs) a = let cons = sum_by-cons f x xs in let rest = sum_by-most f m xs a.1 in omega (arith, cons, rest, a.0)

pub row-small : (format : Format) (n i : ℕ) → n ≤ 60 → i ≤ 60 → row_length format n i ≤ 61
row-small FullMatrix n i a b = omega arith
row-small UpperRow n i a b = omega arith
row-small LowerRow n i a b = omega arith
row-small UpperDiagRow n i a b = omega arith
row-small LowerDiagRow n i a b = omega arith

-- a matrix of few cities has few numbers
pub rows-small : (format : Format) (n k : ℕ) → n ≤ 60 → k ≤ 60 → sum_by (row_length format n) (range_with_len 1 k) ≤ 3660
rows-small format n k few short =
    let all = sum_by-most (row_length format n) 61 (range_with_len 1 k) (range-all (λ i. row_length format n i ≤ 61) 1 k (λ i l m. row-small format n i few (omega arith))) in
    let long = length-range 1 k in
    omega (arith, all, long, short)

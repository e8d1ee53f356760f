-- The weights that the numbers of a matrix are.
use Rattle.std.proofs.Common.{◌≡◌, ◌≢◌, ℕ, ◌+◌, ◌-◌, ◌<◌, ◌≤◌, true, false, cond, ◌==◌, List, length, get_or, Some, ap, sym, ◌∙◌, arith}
use Rattle.std.specs.Prelude.{zip, unwrap_or, nat_lt}
use Rattle.std.specs.List.{AllByRecursion, range_with_len}
use Rattle.std.proofs.lemmas.Bool.{ltb-true, ltb-false, true≢false}
use Rattle.std.proofs.lemmas.Bool.Decides.{nat_tests}
use Rattle.yew_tsp.specs.declared.header.Format.{Format}
use Rattle.yew_tsp.specs.declared.header.Format.TheVariants.{FullMatrix, UpperRow, LowerRow, UpperDiagRow, LowerDiagRow}
use Rattle.yew_tsp.specs.Lists.{range-all}
use Rattle.yew_tsp.specs.Matrices.{first_column, row_length, row_start, has_place, places, matrix_count, number_at, weight_from}
use Rattle.yew_tsp.proofs.Counts.{total, count-total, total-sum, total-below}
use Rattle.yew_tsp.proofs.Places.{rows-some, rows-lack}

-- a column that a row has
pub record InRow (format : Format) (n i j : ℕ) : Type 0 where
  pub from : first_column format i ≤ j
  pub to : j < first_column format i + row_length format n i

module _ (n i j : ℕ) (i_from : 1 ≤ i) (i_to : i ≤ n) (j_from : 1 ≤ j) (j_to : j ≤ n) (other : i ≢ j) where
  pub in-row : (format : Format) → has_place format i j ≡ true → InRow format n i j
  in-row FullMatrix h = record { from = j_from; to = omega arith }
  in-row UpperRow h = let l = ltb-true i j h in record { from = omega (arith, l); to = omega (arith, l) }
  in-row LowerRow h = let l = ltb-true j i h in record { from = j_from; to = omega (arith, l) }
  in-row UpperDiagRow h = let l = ltb-true i j h in record { from = omega (arith, l); to = omega (arith, l) }
  in-row LowerDiagRow h = let l = ltb-true j i h in record { from = j_from; to = omega (arith, l) }

  -- where a row lacks a column, the column's row has the row
  pub mirrored : (format : Format) → has_place format i j ≡ false → has_place format j i ≡ true
  mirrored FullMatrix h = absurd (true≢false h)
  mirrored UpperRow h = turned h
    where
      turned : nat_lt i j ≡ false → nat_lt j i ≡ true
      turned e = grind (arith, nat_tests)
  mirrored LowerRow h = turned h
    where
      turned : nat_lt j i ≡ false → nat_lt i j ≡ true
      turned e = grind (arith, nat_tests)
  mirrored UpperDiagRow h = turned h
    where
      turned : nat_lt i j ≡ false → nat_lt j i ≡ true
      turned e = grind (arith, nat_tests)
  mirrored LowerDiagRow h = turned h
    where
      turned : nat_lt j i ≡ false → nat_lt i j ≡ true
      turned e = grind (arith, nat_tests)

  off-row : (format : Format) → has_place format i j ≡ false → AllByRecursion (λ b. b ≢ j) (range_with_len (first_column format i) (row_length format n i))
  off-row FullMatrix h = absurd (true≢false h)
  off-row UpperRow h = let l = ltb-false i j h in range-all (λ b. b ≢ j) (i + 1) (n - i) (λ k x y e. absurd (omega (arith, l)))
  off-row LowerRow h = let l = ltb-false j i h in range-all (λ b. b ≢ j) 1 (i - 1) (λ k x y e. absurd (omega (arith, l)))
  off-row UpperDiagRow h = let l = ltb-false i j h in range-all (λ b. b ≢ j) i (n + 1 - i) (λ k x y e. absurd (omega (arith, l, other)))
  off-row LowerDiagRow h = let l = ltb-false j i h in range-all (λ b. b ≢ j) 1 i (λ k x y e. absurd (omega (arith, l, other)))

module _ (format : Format) (n : ℕ) (numbers : List ℕ) (count : length numbers ≡ matrix_count format n) where
  many : total (row_length format n) 1 n ≤ length numbers
  many = let e = count-total format n in omega (arith, e, count)

  module _ (i j : ℕ) (i_from : 1 ≤ i) (i_to : i ≤ n) (row : InRow format n i j) where
    start_is : total (row_length format n) 1 (i - 1) ≡ row_start format n i
    start_is = total-sum (row_length format n) 1 (i - 1)

    -- the place of the number is one of the numbers
    pub place-within : row_start format n i + (j - first_column format i) < length numbers
    place-within =
        let start = start_is in let all = many in let from = row.from in let to = row.to in
        let below = total-below (row_length format n) 1 n i i_from (omega arith) in
        omega (arith, start, all, from, to, below)

    pub number-there : number_at (zip (places format n) numbers) i j ≡ Some (get_or numbers (row_start format n i + (j - first_column format i)) 0)
    number-there =
        rows-some i j (first_column format) (row_length format n) 1 n numbers i_from (omega arith) row.from row.to many
        ∙ ap (λ s. Some (get_or numbers (s + (j - first_column format i)) 0)) start_is

  module _ (i j : ℕ) (i_from : 1 ≤ i) (i_to : i ≤ n) (j_from : 1 ≤ j) (j_to : j ≤ n) (other : i ≢ j) where
    differs : (i == j) ≡ false
    differs = grind (arith, nat_tests)

    -- the weight is the number at its place
    pub weight-there : has_place format i j ≡ true → weight_from (zip (places format n) numbers) i j ≡ get_or numbers (row_start format n i + (j - first_column format i)) 0
    weight-there h =
        ap (λ b. cond b 0 (unwrap_or (number_at (zip (places format n) numbers) i j) (unwrap_or (number_at (zip (places format n) numbers) j i) 0))) differs
        ∙ ap (λ o. unwrap_or o (unwrap_or (number_at (zip (places format n) numbers) j i) 0)) (number-there i j i_from i_to (in-row n i j i_from i_to j_from j_to other format h))

    -- or the number at the place of its mirror
    pub weight-mirrored : has_place format i j ≡ false → weight_from (zip (places format n) numbers) i j ≡ get_or numbers (row_start format n j + (i - first_column format j)) 0
    weight-mirrored h =
        ap (λ b. cond b 0 (unwrap_or (number_at (zip (places format n) numbers) i j) (unwrap_or (number_at (zip (places format n) numbers) j i) 0))) differs
        ∙ ap (λ o. unwrap_or o (unwrap_or (number_at (zip (places format n) numbers) j i) 0)) (rows-lack i j (first_column format) (row_length format n) 1 n numbers i_from (off-row n i j i_from i_to j_from j_to other format h))
        ∙ ap (λ o. unwrap_or o 0) (number-there j i j_from j_to (in-row n j i j_from j_to i_from i_to (λ e. other (sym e)) format (mirrored n i j i_from i_to j_from j_to other format h)))

-- a city has no weight to itself
pub weight-own : (format : Format) (n : ℕ) (numbers : List ℕ) (i j : ℕ) → i ≡ j → weight_from (zip (places format n) numbers) i j ≡ 0
weight-own format n numbers i j e = ap (λ b. cond b 0 (unwrap_or (number_at (zip (places format n) numbers) i j) (unwrap_or (number_at (zip (places format n) numbers) j i) 0))) (same i j e)
  where
    same : (a b : ℕ) → a ≡ b → (a == b) ≡ true
    same a b h = grind (arith, nat_tests)

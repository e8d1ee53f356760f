-- The number at a place of a matrix.
use Rattle.std.proofs.Common.{◌≡◌, ◌≢◌, ℕ, zero, suc, ◌+◌, ◌-◌, ◌<◌, ◌≤◌, true, false, cond, ◌&&◌, ◌==◌, List, [], ◌∷◌, ◌++◌, length, map, drop, get_or, zero-add, Some, None, refl, ap, sym, ◌∙◌, arith, inl, inr}
use Rattle.std.specs.Prelude.{flat_map, zip}
use Rattle.std.specs.List.{AllByRecursion, range_with_len}
use Rattle.std.proofs.lemmas.Bool.{cases_eq}
use Rattle.std.proofs.lemmas.Bool.Decides.{nat_tests}
use Rattle.std.proofs.lemmas.List.{length-drop, get_or-drop}
use Rattle.yew_tsp.specs.Lists.{length-range}
use Rattle.yew_tsp.specs.Matrices.{number_at}
use Rattle.yew_tsp.proofs.Counts.{total}

abbrev Place : Type 0
Place = ℕ × ℕ

abbrev no_numbers : List ℕ
no_numbers = []

abbrev no_places : List Place
no_places = []

abbrev row_places : ℕ → List ℕ → List Place
row_places a js = map (λ j. (a, j)) js

apart : (a b i j : ℕ) → a ≢ i → ((a == i) && (b == j)) ≡ false
apart a b i j h = grind (arith, nat_tests)

apart_column : (a b i j : ℕ) → b ≢ j → ((a == i) && (b == j)) ≡ false
apart_column a b i j h = grind (arith, nat_tests)

together : (i j : ℕ) → ((i == i) && (j == j)) ≡ true
together i j = grind (arith, nat_tests)

zip-none : (ps : List Place) → zip ps no_numbers ≡ []
zip-none [] = refl
zip-none (p ∷ ps) = refl

drop-none : (k : ℕ) → drop k no_numbers ≡ []
drop-none zero = refl
drop-none (suc k) = refl

module _ (i j : ℕ) where
  none_at : (ps qs : List Place) (k : ℕ) → number_at (zip ps no_numbers) i j ≡ number_at (zip qs (drop k no_numbers)) i j
  none_at ps qs k = ap (λ es. number_at es i j) (zip-none ps) ∙ sym (ap (λ ns. number_at (zip qs ns) i j) (drop-none k) ∙ ap (λ es. number_at es i j) (zip-none qs))

  -- the places of another row are passed over
  other_row : (a : ℕ) → a ≢ i → (js : List ℕ) (rest : List Place) (ns : List ℕ) → number_at (zip (row_places a js ++ rest) ns) i j ≡ number_at (zip rest (drop (length js) ns)) i j
  other_row a h [] rest ns = refl
  other_row a h (b ∷ js) rest [] = none_at (row_places a (b ∷ js) ++ rest) rest (suc (length js))
  other_row a h (b ∷ js) rest (n ∷ ns) =
      ap (λ t. cond t (Some n) (number_at (zip (row_places a js ++ rest) ns) i j)) (apart a b i j h) ∙ other_row a h js rest ns

  -- and so is the own row, where it lacks the column
  other_columns : (js : List ℕ) (rest : List Place) (ns : List ℕ) → AllByRecursion (λ b. b ≢ j) js → number_at (zip (row_places i js ++ rest) ns) i j ≡ number_at (zip rest (drop (length js) ns)) i j
  other_columns [] rest ns a = refl
  other_columns (b ∷ js) rest [] a = none_at (row_places i (b ∷ js) ++ rest) rest (suc (length js))
  other_columns (b ∷ js) rest (n ∷ ns) a =
      ap (λ t. cond t (Some n) (number_at (zip (row_places i js ++ rest) ns) i j)) (apart_column i b i j a.0) ∙ other_columns js rest ns a.1

  -- the column in the own row
  own_column : (f len : ℕ) (rest : List Place) (ns : List ℕ) → f ≤ j → j < f + len → len ≤ length ns → number_at (zip (row_places i (range_with_len f len) ++ rest) ns) i j ≡ Some (get_or ns (j - f) 0)
  own_column f zero rest ns l m many = absurd (omega arith)
  own_column f (suc len) rest [] l m many = absurd (omega arith)
  own_column f (suc len) rest (n ∷ ns) l m many =
      elim (cases_eq f j) [
        | inl same ↦
            let first : j - f ≡ 0 = omega arith in
            ap (λ k. cond ((i == i) && (k == j)) (Some n) (number_at (zip (row_places i (range_with_len (f + 1) len) ++ rest) ns) i j)) same
            ∙ ap (λ t. cond t (Some n) (number_at (zip (row_places i (range_with_len (f + 1) len) ++ rest) ns) i j)) (together i j)
            ∙ ap (λ k. Some (get_or (n ∷ ns) k 0)) (sym first)
        | inr other ↦
            let later : j - f ≡ suc (j - (f + 1)) = omega arith in
            ap (λ t. cond t (Some n) (number_at (zip (row_places i (range_with_len (f + 1) len) ++ rest) ns) i j)) (apart_column i f i j other)
            ∙ own_column (f + 1) len rest ns (omega arith) (omega arith) (omega arith)
            ∙ ap (λ k. Some (get_or (n ∷ ns) k 0)) (sym later)
      ]

  module _ (first len : ℕ → ℕ) where
    abbrev rows : ℕ → ℕ → List Place
    rows a k = flat_map (λ r. row_places r (range_with_len (first r) (len r))) (range_with_len a k)

    rows-skip : (a k : ℕ) (ns : List ℕ) → a ≢ i → number_at (zip (rows a (suc k)) ns) i j ≡ number_at (zip (rows (a + 1) k) (drop (len a) ns)) i j
    rows-skip a k ns h =
        other_row a h (range_with_len (first a) (len a)) (rows (a + 1) k) ns
        ∙ ap (λ m. number_at (zip (rows (a + 1) k) (drop m ns)) i j) (length-range (first a) (len a))

    -- no number stands in rows that lack the own one
    rows-none : (a k : ℕ) (ns : List ℕ) → i < a → number_at (zip (rows a k) ns) i j ≡ None
    rows-none a zero ns l = nothing ns
      where
        nothing : (ms : List ℕ) → number_at (zip no_places ms) i j ≡ None
        nothing ms = refl
    rows-none a (suc k) ns l = rows-skip a k ns (λ e. absurd (omega arith)) ∙ rows-none (a + 1) k (drop (len a) ns) (omega arith)

    -- the number where the row has the column
    pub rows-some : (a k : ℕ) (ns : List ℕ) → a ≤ i → i < a + k → first i ≤ j → j < first i + len i → total len a k ≤ length ns → number_at (zip (rows a k) ns) i j ≡ Some (get_or ns (total len a (i - a) + (j - first i)) 0)
    unfolding total
    rows-some a zero ns l m f t many = absurd (omega arith)
    rows-some a (suc k) ns l m f t many =
        elim (cases_eq a i) [
          | inl same ↦
              let none : i - a ≡ 0 = omega arith in
              let here : len a ≤ length ns = omega arith in
              ap (λ r. number_at (zip (row_places r (range_with_len (first r) (len r)) ++ rows (a + 1) k) ns) i j) same
              ∙ own_column (first i) (len i) (rows (a + 1) k) ns f t (let e = ap len same in omega (arith, e, here))
              ∙ ap (λ p. Some (get_or ns p 0)) (sym (zero-add (j - first i)))
              ∙ ap (λ m'. Some (get_or ns (total len a m' + (j - first i)) 0)) (sym none)
          | inr other ↦
              let later : i - a ≡ suc (i - (a + 1)) = omega arith in
              let dropped = length-drop (len a) ns in
              let place : len a + (total len (a + 1) (i - (a + 1)) + (j - first i)) ≡ len a + total len (a + 1) (i - (a + 1)) + (j - first i) = omega arith in
              rows-skip a k ns other
              ∙ rows-some (a + 1) k (drop (len a) ns) (omega arith) (omega arith) f t (omega (arith, dropped, many))
              ∙ ap Some (get_or-drop (len a) ns (total len (a + 1) (i - (a + 1)) + (j - first i)) 0 ∙ ap (λ p. get_or ns p 0) place)
              ∙ ap (λ m'. Some (get_or ns (total len a m' + (j - first i)) 0)) (sym later)
        ]

    -- and none where it lacks the column
    pub rows-lack : (a k : ℕ) (ns : List ℕ) → a ≤ i → AllByRecursion (λ b. b ≢ j) (range_with_len (first i) (len i)) → number_at (zip (rows a k) ns) i j ≡ None
    rows-lack a zero ns l h = nothing ns
      where
        nothing : (ms : List ℕ) → number_at (zip no_places ms) i j ≡ None
        nothing ms = refl
    rows-lack a (suc k) ns l h =
        elim (cases_eq a i) [
          | inl same ↦
              ap (λ r. number_at (zip (row_places r (range_with_len (first r) (len r)) ++ rows (a + 1) k) ns) i j) same
              ∙ other_columns (range_with_len (first i) (len i)) (rows (a + 1) k) ns h
              ∙ rows-none (a + 1) k (drop (length (range_with_len (first i) (len i))) ns) (omega arith)
          | inr other ↦ rows-skip a k ns other ∙ rows-lack (a + 1) k (drop (len a) ns) (omega arith) h
        ]

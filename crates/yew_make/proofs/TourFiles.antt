-- A made tour instance is a tour file within its limits.
use Rattle.std.proofs.Common.{◌≡◌, ℕ, zero, suc, ◌+◌, ◌-◌, ◌*◌, ◌/◌, ◌<◌, ◌≤◌, Bool, true, false, cond, ◌==◌, List, [], ◌∷◌, ◌++◌, length, map, codes, Some, None, refl, sym, ap, subst, ◌∙◌, arith}
use Rattle.std.specs.Prelude.{not, take, IsFalse}
use Rattle.std.specs.Char.{is_ascii_digit}
use Rattle.std.specs.List.{AllZip, AllByRecursion, before_first, position_or_len, range_with_len}
use Rattle.std.proofs.lemmas.List.{append-nil, map-append}
use Rattle.std.proofs.lemmas.Grind.{flat_map-append}
use Rattle.std.proofs.lemmas.Simd.{map-map}
use Rattle.std.proofs.lemmas.List.FromFn.{length-map-range_with_len}
use Rattle.std.proofs.lemmas.Bool.{and_parts}
use Rattle.std.proofs.lemmas.Bool.Decides.{nat_tests}
use Rattle.yew_lines.specs.Spelling.{line}
use Rattle.yew_words.specs.declared.plan.Made.TheVariants as made
use Rattle.yew_text.specs.Words.{TextWord, words_from}
use Rattle.yew_text.specs.Numbers.{is_digits, greatest, IsNumber}
use Rattle.yew_text.specs.Grammar.{Limited, is_past, first_past}
use Rattle.yew_text.proofs.Splitting.{word_laws}
use Rattle.yew_tsp.specs.Files.{HasContents, IsTourFile, number_limits, HasNonePast, FileLaws}
use Rattle.yew_tsp.specs.Matrices.{ends_matrix, is_ending, before_ending}
use Rattle.yew_make.specs.Draws.{first_state, word_from, weight_from, weights_from, weight, weights}
use Rattle.yew_knap.specs.Rows.{row_numbers}
use Rattle.yew_make.specs.Pairs.{pairs, pairs_before, place_of}
use Rattle.yew_make.specs.Tours.{triangle_row, made_triangle, made_weights, made_contents, made_tours, matrix_text}
use Rattle.yew_make.specs.Texts.{made_text}
use Rattle.yew_make.specs.Laws.{IsWeight, MadeTour}
use Rattle.yew_make.proofs.Ranges.{range_with_len-more, range_with_len-append}
use Rattle.yew_make.proofs.Triangles.{pairs_before-none, pairs_before-more, pairs_before-all, pairs_in_order}
use Rattle.yew_knap.proofs.NumberWords.{Spells, Reads, AllFit, reads-rows}
use Rattle.yew_make.proofs.KnapsackFiles.{weight-range, map-all}
use Rattle.yew_make.proofs.TourFields.{made_header, made_header-has, made_header-says}

-- ---- the weights, row by row, are the weights in the order of their draws

weights_from-append : (state m n : ℕ) → weights_from state 0 (m + n) ≡ weights_from state 0 m ++ weights_from state m n
weights_from-append state m n =
    let e : 0 + m ≡ m = omega arith in
    ap (map (weight_from state)) (range_with_len-append 0 m n)
    ∙ map-append (weight_from state) (range_with_len 0 m) (range_with_len (0 + m) n)
    ∙ ap (λ (k : ℕ). weights_from state 0 m ++ weights_from state k n) e

rows-in_order : (state size u : ℕ) → row_numbers (map (triangle_row state size) (range_with_len 0 u)) ≡ weights_from state 0 (pairs_before size u)
rows-in_order state size zero = ap (weights_from state 0) (sym (pairs_before-none size))
rows-in_order state size (suc u) =
    let e : suc u ≡ u + 1 = omega arith in
    ap (λ (k : ℕ). row_numbers (map (triangle_row state size) (range_with_len 0 k))) e
    ∙ ap (λ (l : List ℕ). row_numbers (map (triangle_row state size) l)) (range_with_len-more 0 u u (omega arith))
    ∙ ap (λ (rows : List (List ℕ)). row_numbers rows) (map-append (triangle_row state size) (range_with_len 0 u) (u ∷ []))
    ∙ flat_map-append (λ (row : List ℕ). row) (map (triangle_row state size) (range_with_len 0 u)) (triangle_row state size u ∷ [])
    ∙ ap (λ (l : List ℕ). row_numbers (map (triangle_row state size) (range_with_len 0 u)) ++ l) (append-nil (triangle_row state size u))
    ∙ ap (λ (l : List ℕ). l ++ triangle_row state size u) (rows-in_order state size u)
    ∙ sym (weights_from-append state (pairs_before size u) (size - suc u))
    ∙ ap (weights_from state 0) (sym (pairs_before-more size u))

-- the last row has no pair
pairs_before-last : (size : ℕ) → 1 ≤ size → pairs_before size (size - 1) ≡ size * (size - 1) / 2
pairs_before-last zero some = absurd (omega arith)
pairs_before-last (suc n) some =
    let e : suc n - 1 ≡ n = omega arith in
    let row = pairs_before-more (suc n) n in
    let none : pairs_before (suc n) n ≡ pairs_before (suc n) (suc n) = omega (arith, row) in
    ap (pairs_before (suc n)) e ∙ none ∙ sym (pairs_before-all (suc n))

in_order : (seed size : ℕ) → 1 ≤ size → made_weights seed size ≡ weights seed 0 (size * (size - 1) / 2)
in_order seed size some = rows-in_order (first_state seed) size (size - 1) ∙ ap (weights seed 0) (pairs_before-last size some)

-- ---- the matrix

row-fits : (state start count : ℕ) → AllFit (weights_from state start count)
row-fits state start count = map-all (λ n. n ≤ greatest) (weight_from state) (range_with_len start count) (λ k. omega arith)

end_reads : Reads (codes "EOF" ∷ []) [] (line (codes "EOF"))
end_reads = record {
  in_line = λ n. record {
    before = [];
    after = record { text = codes "EOF"; line = n } ∷ [];
    words_are =
        word_laws.word n 69 (79 ∷ 70 ∷ []) (10 ∷ []) (refl, (refl, (refl, tt))) refl
        ∙ ap (λ (ws : List TextWord). let w : TextWord = record { text = codes "EOF"; line = n } in w ∷ ws) (word_laws.newline n [] ∙ word_laws.none (n + 1));
    are_numbers = tt;
    ends_are = refl;
  };
}

-- up to the first word that passes a test
before_first-all : (p : TextWord → Bool) (words : List TextWord) (last : TextWord) → AllByRecursion (λ word. IsFalse (p word)) words → p last ≡ true → before_first p (words ++ last ∷ []) ≡ words
before_first-all p [] last out at = ap (λ (b : Bool). take (cond (not b) (1 + 0) 0) (last ∷ [])) at
before_first-all p (word ∷ words) last out at =
    let one_more : 1 + position_or_len p (words ++ last ∷ []) ≡ suc (position_or_len p (words ++ last ∷ [])) = omega arith in
    ap (λ (b : Bool). take (cond (not b) (1 + position_or_len p (words ++ last ∷ [])) 0) (word ∷ words ++ last ∷ [])) out.0
    ∙ ap (λ (k : ℕ). take k (word ∷ words ++ last ∷ [])) one_more
    ∙ ap (λ (ws : List TextWord). word ∷ ws) (before_first-all p words last out.1 at)

-- no digits end a matrix
not_first : (b c : ℕ) → is_ascii_digit b ≡ true → 57 < c → (c == b) ≡ false
not_first b c digit above = grind (arith, nat_tests)

digits-stay : (text : List ℕ) → is_digits text ≡ true → ends_matrix text ≡ false
digits-stay [] d = refl
digits-stay (b ∷ bs) d =
    let digit = (and_parts (is_ascii_digit b) (is_digits bs) d).0 in
    rw (not_first b 69 digit (omega arith), not_first b 68 digit (omega arith)) (refl {a = false})

numbers-stay : (words : List TextWord) (numbers : List ℕ) → AllZip IsNumber words numbers → AllByRecursion (λ word. IsFalse (is_ending word)) words
numbers-stay [] [] are = tt
numbers-stay [] (n ∷ numbers) are = tt
numbers-stay (word ∷ words) [] are = absurd are
numbers-stay (word ∷ words) (n ∷ numbers) are = (digits-stay word.text are.0.digits, numbers-stay words numbers are.1)

-- numbers with the word that ends a file behind them
before_ending-numbers : (numbers : List ℕ) (words : List TextWord) → Spells (codes "EOF" ∷ []) numbers words → AllZip IsNumber (before_ending words) numbers
before_ending-numbers numbers words s = cut s.after s.words_are s.ends_are
  where
    cut : (after : List TextWord) → words ≡ s.before ++ after → map (λ word. word.text) after ≡ codes "EOF" ∷ [] → AllZip IsNumber (before_ending words) numbers
    cut [] are ends = absurd (cc)
    cut (word ∷ []) are ends =
        let end_is : word.text ≡ codes "EOF" = cc in
        let is = ap before_ending are ∙ before_first-all is_ending s.before word (numbers-stay s.before numbers s.are_numbers) (ap ends_matrix end_is) in
        subst (λ (ws : List TextWord). AllZip IsNumber ws numbers) (sym is) s.are_numbers
    cut (word ∷ other ∷ others) are ends = absurd (cc)

matrix_numbers : (seed size : ℕ) → AllZip IsNumber (before_ending (words_from 7 (matrix_text (made_triangle seed size)))) (made_weights seed size)
matrix_numbers seed size =
    let state = first_state seed in
    let words = words_from 7 (matrix_text (made_triangle seed size)) in
    let fit : AllByRecursion AllFit (made_triangle seed size) = map-all AllFit (triangle_row state size) (range_with_len 0 (size - 1)) (λ u. row-fits state (pairs_before size u) (size - suc u)) in
    let s = (reads-rows (codes "EOF" ∷ []) (made_triangle seed size) [] (line (codes "EOF")) fit end_reads).in_line 7 in
    before_ending-numbers (made_weights seed size) words (subst (λ (ns : List ℕ). Spells (codes "EOF" ∷ []) ns words) (append-nil (made_weights seed size)) s)

-- ---- the file

-- no weight is past its limit
none-cons : (x : Limited) (xs : List Limited) → x.number ≤ x.limit → first_past xs ≡ None → first_past (x ∷ xs) ≡ None
none-cons x xs within none = ap (λ (b : Bool). cond b (Some x) (first_past xs)) (not_past x within) ∙ none
  where
    not_past : (y : Limited) → y.number ≤ y.limit → is_past y ≡ false
    not_past y l = grind (arith, nat_tests)

weights-within : (numbers : List ℕ) → AllByRecursion IsWeight numbers → first_past (number_limits numbers) ≡ None
weights-within [] all = refl
weights-within (n ∷ numbers) all =
    let high = all.0.1 in
    none-cons (record { number = n; limit = 2147483647 }) (number_limits numbers) (omega (arith, high)) (weights-within numbers all.1)

pub made_tour_law : FileLaws → (seed size : ℕ) → 2 ≤ size → size ≤ 60 → MadeTour seed size
made_tour_law laws seed size several small =
    let text = made_text made.Tsp seed size in
    let contents = made_contents seed size in
    let matrix = matrix_text (made_triangle seed size) in
    let fits : size ≤ greatest = omega arith in
    let order = in_order seed size (omega arith) in
    let count = ap (λ (ns : List ℕ). length ns) order ∙ length-map-range_with_len (weight_from (first_state seed)) 0 (size * (size - 1) / 2) in
    let weights_are = subst (λ (ns : List ℕ). AllByRecursion IsWeight ns) (sym order) (map-all IsWeight (weight_from (first_state seed)) (range_with_len 0 (size * (size - 1) / 2)) (λ k. weight-range (word_from (first_state seed) k))) in
    let has : HasContents text contents = record {
      header = made_header size matrix;
      has_header = made_header-has size matrix several fits;
      says = made_header-says size matrix fits;
      numbers = matrix_numbers seed size;
      count = count;
    } in
    let file : IsTourFile text (made_tours seed size) = record { contents = contents; has = has; instance_is = refl } in
    let none_past : HasNonePast text = record { contents = contents; has = has; none = none-cons (record { number = size; limit = 60 }) (number_limits (made_weights seed size)) small (weights-within (made_weights seed size) weights_are) } in
    record {
      file = file;
      none_past = none_past;
      limits = laws.within text (made_tours seed size) file none_past;
      in_order = order;
      by_pairs = order ∙ ap (map (weight seed)) (sym (pairs_in_order size)) ∙ map-map (weight seed) (place_of size) (pairs size);
      count = count;
      weights = weights_are;
    }

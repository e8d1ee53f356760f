-- Rows of numbers, read as words.
use Rattle.std.proofs.Common.{◌≡◌, ℕ, ◌+◌, ◌<◌, ◌≤◌, Bool, true, List, [], ◌∷◌, ◌++◌, length, map, decimal, refl, sym, ap, subst, ◌∙◌, arith, append_assoc}
use Rattle.std.specs.Prelude.{flat_map, ◌&&◌}
use Rattle.std.specs.List.{AllZip, AllByRecursion}
use Rattle.std.specs.Char.{is_ascii_digit}
use Rattle.std.specs.Str.Parse.{AllDigits, digits_value}
use Rattle.std.proofs.lemmas.Bool.{le-leb}
use Rattle.std.proofs.lemmas.Fmt.{decimal_is_IsNumeral}
use Rattle.std.proofs.lemmas.List.{append-nil}
use Rattle.std.proofs.lemmas.Str.Parse.{digit_at}
use Rattle.yew_text.specs.Words.{TextWord, words_from}
use Rattle.yew_text.specs.Numbers.{is_digits, value_of, greatest, IsNumber}
use Rattle.yew_text.specs.Laws.{EndsWord}
use Rattle.yew_text.proofs.Splitting.{word_laws, digits_black}
use Rattle.yew_lines.specs.Spelling.{spaced}
use Rattle.yew_knap.specs.Rows.{row_line, row_lines, row_numbers}

-- ---- the digits of a number

pub record Digits (n : ℕ) : Type 0 where
  pub first : ℕ
  pub others : List ℕ
  pub is : decimal n ≡ first ∷ others
  pub digits : is_digits (first ∷ others) ≡ true
  pub value : n ≡ value_of (first ∷ others)

all_digits : (ds : List ℕ) → AllDigits 10 ds → is_digits ds ≡ true
all_digits [] all = refl
all_digits (d ∷ ds) all =
    let range = digit_at (d ∷ []) 0 (all.0, tt) (omega arith) in
    let digit : is_ascii_digit d ≡ true = rw (le-leb 48 d range.0, le-leb d 57 range.1) refl in
    ap (λ (b : Bool). b && is_digits ds) digit ∙ all_digits ds all.1

digits_cut : (n : ℕ) (ds : List ℕ) → 0 < length ds → AllDigits 10 ds → digits_value 10 ds ≡ n → decimal n ≡ ds → Digits n
digits_cut n [] some all value is = absurd (omega arith)
digits_cut n (d ∷ ds) some all value is = record { first = d; others = ds; is = is; digits = all_digits (d ∷ ds) all; value = sym value }

pub digits_of : (n : ℕ) → n ≤ greatest → Digits n
digits_of n small =
    let numeral = decimal_is_IsNumeral n (omega arith) in
    digits_cut n (decimal n) numeral.0.0 numeral.0.1 numeral.1 refl

word_of : ℕ → ℕ → TextWord
word_of line n = record { text = decimal n; line = line }

-- it is one word, which is the number
number-word : (line n : ℕ) (rest : List ℕ) → n ≤ greatest → EndsWord rest → words_from line (decimal n ++ rest) ≡ word_of line n ∷ words_from line rest
unfolding word_of
number-word line n rest small ends =
    let d = digits_of n small in
    ap (λ (ds : List ℕ). words_from line (ds ++ rest)) d.is
    ∙ word_laws.word line d.first d.others rest (digits_black (d.first ∷ d.others) d.digits) ends
    ∙ ap (λ (ds : List ℕ). let w : TextWord = record { text = ds; line = line } in w ∷ words_from line rest) (sym d.is)

number-is : (line n : ℕ) → n ≤ greatest → IsNumber (word_of line n) n
unfolding word_of
number-is line n small =
    let d = digits_of n small in
    record { digits = ap (λ (ds : List ℕ). is_digits ds) d.is ∙ d.digits; value = d.value ∙ ap (λ (ds : List ℕ). value_of ds) (sym d.is); fits = small }

-- ---- words that are numbers, and words with these texts behind them

pub record Spells (ends : List (List ℕ)) (numbers : List ℕ) (words : List TextWord) : Type 0 where
  pub before : List TextWord
  pub after : List TextWord
  pub words_are : words ≡ before ++ after
  pub are_numbers : AllZip IsNumber before numbers
  pub ends_are : map (λ word. word.text) after ≡ ends

-- in whichever line the bytes begin
pub record Reads (ends : List (List ℕ)) (numbers bytes : List ℕ) : Type 0 where
  pub in_line : (line : ℕ) → Spells ends numbers (words_from line bytes)

abbrev pub AllFit : List ℕ → Type 0
AllFit numbers = AllByRecursion (λ n. n ≤ greatest) numbers

module _ (ends : List (List ℕ)) where
  spells-cons : (word : TextWord) (n : ℕ) (words : List TextWord) (numbers : List ℕ) → IsNumber word n → Spells ends numbers words → Spells ends (n ∷ numbers) (word ∷ words)
  spells-cons word n words numbers is s = record {
    before = word ∷ s.before;
    after = s.after;
    words_are = ap (λ (ws : List TextWord). word ∷ ws) s.words_are;
    are_numbers = (is, s.are_numbers);
    ends_are = s.ends_are;
  }

  reads-number : (n : ℕ) (numbers rest : List ℕ) → n ≤ greatest → EndsWord rest → Reads ends numbers rest → Reads ends (n ∷ numbers) (decimal n ++ rest)
  reads-number n numbers rest small stops r = record {
    in_line = λ line. subst (Spells ends (n ∷ numbers)) (sym (number-word line n rest small stops)) (spells-cons (word_of line n) n (words_from line rest) numbers (number-is line n small) (r.in_line line));
  }

  reads-space : (numbers rest : List ℕ) → Reads ends numbers rest → Reads ends numbers (32 ∷ rest)
  reads-space numbers rest r = record { in_line = λ line. subst (Spells ends numbers) (sym (word_laws.white line 32 rest refl refl)) (r.in_line line) }

  reads-newline : (numbers rest : List ℕ) → Reads ends numbers rest → Reads ends numbers (10 ∷ rest)
  reads-newline numbers rest r = record { in_line = λ line. subst (Spells ends numbers) (sym (word_laws.newline line rest)) (r.in_line (line + 1)) }

  stops-spaced : (ns rest : List ℕ) → EndsWord rest → EndsWord (flat_map spaced ns ++ rest)
  stops-spaced [] rest stops = stops
  stops-spaced (n ∷ ns) rest stops = refl

  reads-spaced : (ns numbers rest : List ℕ) → AllFit ns → EndsWord rest → Reads ends numbers rest → Reads ends (ns ++ numbers) (flat_map spaced ns ++ rest)
  reads-spaced [] numbers rest fit stops r = r
  reads-spaced (n ∷ ns) numbers rest fit stops r =
      subst (λ (bytes : List ℕ). Reads ends ((n ∷ ns) ++ numbers) (32 ∷ bytes)) (sym (append_assoc (decimal n) (flat_map spaced ns) rest))
      (reads-space (n ∷ ns ++ numbers) (decimal n ++ (flat_map spaced ns ++ rest))
      (reads-number n (ns ++ numbers) (flat_map spaced ns ++ rest) fit.0 (stops-spaced ns rest stops) (reads-spaced ns numbers rest fit.1 stops r)))

  -- a line
  reads-row : (row numbers rest : List ℕ) → AllFit row → Reads ends numbers rest → Reads ends (row ++ numbers) (row_line row ++ rest)
  reads-row [] numbers rest fit r = reads-newline numbers rest r
  reads-row (n ∷ ns) numbers rest fit r =
      subst (Reads ends ((n ∷ ns) ++ numbers)) (sym (regroup (decimal n) (flat_map spaced ns) rest))
      (reads-number n (ns ++ numbers) (flat_map spaced ns ++ (10 ∷ rest)) fit.0 (stops-spaced ns (10 ∷ rest) refl) (reads-spaced ns numbers (10 ∷ rest) fit.1 refl (reads-newline numbers rest r)))
    where
      regroup : (d f rest : List ℕ) → (d ++ f ++ 10 ∷ []) ++ rest ≡ d ++ (f ++ (10 ∷ rest))
      regroup d f rest = append_assoc (d ++ f) (10 ∷ []) rest ∙ append_assoc d f (10 ∷ rest)

  -- all lines
  pub reads-rows : (rows : List (List ℕ)) (numbers rest : List ℕ) → AllByRecursion AllFit rows → Reads ends numbers rest → Reads ends (row_numbers rows ++ numbers) (row_lines rows ++ rest)
  reads-rows [] numbers rest fit r = r
  reads-rows (row ∷ rows) numbers rest fit r =
      subst (λ (ns : List ℕ). Reads ends ns ((row_line row ++ row_lines rows) ++ rest)) (sym (append_assoc row (row_numbers rows) numbers))
      (subst (Reads ends (row ++ (row_numbers rows ++ numbers))) (sym (append_assoc (row_line row) (row_lines rows) rest))
      (reads-row row (row_numbers rows ++ numbers) (row_lines rows ++ rest) fit.0 (reads-rows rows numbers rest fit.1 r)))

-- rows alone: their words are their numbers
none_after : (words : List TextWord) → map (λ word. word.text) words ≡ [] → words ≡ []
none_after [] e = refl
none_after (word ∷ words) e = absurd (cc)

pub rows-words : (rows : List (List ℕ)) (line : ℕ) → AllByRecursion AllFit rows → AllZip IsNumber (words_from line (row_lines rows)) (row_numbers rows)
rows-words rows line fit =
    let nothing : Reads [] [] [] = record { in_line = λ n. record { before = []; after = []; words_are = word_laws.none n; are_numbers = tt; ends_are = refl } } in
    let s = (reads-rows [] rows [] [] fit nothing).in_line line in
    let words : words_from line (row_lines rows) ≡ s.before = ap (words_from line) (sym (append-nil (row_lines rows))) ∙ s.words_are ∙ ap (λ (ws : List TextWord). s.before ++ ws) (none_after s.after s.ends_are) ∙ append-nil s.before in
    subst (λ (ns : List ℕ). AllZip IsNumber (words_from line (row_lines rows)) ns) (append-nil (row_numbers rows))
    (subst (λ (ws : List TextWord). AllZip IsNumber ws (row_numbers rows ++ [])) (sym words) s.are_numbers)

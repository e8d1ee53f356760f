-- Which of the two numbers at the head of a file is 0.
use Rattle.std.proofs.Common.{◌≡◌, ℕ, ◌<◌, ◌≤◌, Bool, true, false, cond, ◌&&◌, ◌==◌, leb, List, [], ◌∷◌, Option, Some, None, Ok, Err, refl, sym, ap, ◌∙◌, arith, inl, inr}
use Rattle.std.specs.List.{AllZip}
use Rattle.std.proofs.lemmas.Bool.{cases_Bool, cases_eq, leb-false, le-leb}
use Rattle.std.proofs.lemmas.Bool.Decides.{nat_tests}
use Rattle.yew_text.specs.Words.{TextWord}
use Rattle.yew_text.specs.Numbers.{is_digits, value_of, greatest, IsNumber, Fault, number_in, first_number}
use Rattle.yew_flow.specs.Files.{is_zero, is_some, first_zero, zero_line}

nonzero_test : (v : ℕ) → 1 ≤ v → (v == 0) ≡ false
nonzero_test v l = grind (arith, nat_tests)

zero_test : (v : ℕ) → v ≡ 0 → (v == 0) ≡ true
zero_test v e = grind (arith, nat_tests)

and_false : (b : Bool) → (b && false) ≡ false
and_false true = refl
and_false false = refl

-- ---- words

pub zero-word : (word : TextWord) (n : ℕ) → IsNumber word n → n ≡ 0 → is_zero word ≡ true
zero-word word n is e =
    let value : value_of word.text ≡ 0 = sym is.value ∙ e in
    ap (λ b. b && value_of word.text == 0) is.digits ∙ zero_test (value_of word.text) value

pub some-not_zero : (word : TextWord) (n : ℕ) → IsNumber word n → 1 ≤ n → is_zero word ≡ false
some-not_zero word n is l =
    let value = is.value in
    ap (λ b. b && value_of word.text == 0) is.digits ∙ nonzero_test (value_of word.text) (omega (arith, value, l))

pub some-word : (word : TextWord) (n : ℕ) → IsNumber word n → 1 ≤ n → is_some word ≡ true
some-word word n is l =
    let value = is.value in
    let fits = is.fits in
    ap (λ b. b && (leb 1 (value_of word.text) && leb (value_of word.text) greatest)) is.digits
    ∙ ap (λ b. b && leb (value_of word.text) greatest) (le-leb 1 (value_of word.text) (omega (arith, value, l)))
    ∙ le-leb (value_of word.text) greatest (omega (arith, value, fits))

record IsNeither (word : TextWord) : Type 0 where
  no_zero : is_zero word ≡ false
  no_number : is_some word ≡ false

-- a word that is no number
fault-neither : (word : TextWord) (f : Fault) → number_in word ≡ Err f → IsNeither word
fault-neither word f e = elim (cases_Bool (is_digits word.text)) [
  | inl digits ↦ elim (cases_Bool (leb (value_of word.text) greatest)) [
    | inl fits ↦ absurd (let g : Ok (value_of word.text) ≡ Err f = rw (digits, fits) at e in cc)
    | inr large ↦
        let l : greatest < value_of word.text = leb-false _ _ large in
        record {
          no_zero = ap (λ b. b && value_of word.text == 0) digits ∙ nonzero_test (value_of word.text) (omega arith);
          no_number =
              ap (λ b. b && (leb 1 (value_of word.text) && leb (value_of word.text) greatest)) digits
              ∙ ap (λ b. leb 1 (value_of word.text) && b) large
              ∙ and_false (leb 1 (value_of word.text));
        }
  ]
  | inr not_digits ↦ record {
    no_zero = ap (λ b. b && value_of word.text == 0) not_digits;
    no_number = ap (λ b. b && (leb 1 (value_of word.text) && leb (value_of word.text) greatest)) not_digits;
  }
]

-- ---- the first word

pub zero_line-zero : (word : TextWord) (words : List TextWord) → is_zero word ≡ true → zero_line (word ∷ words) ≡ Some word.line
zero_line-zero word words e = ap (λ b. cond b (Some word.line) (cond (is_some word) (first_zero words) None)) e

pub zero_line-some : (word : TextWord) (words : List TextWord) (n : ℕ) → IsNumber word n → 1 ≤ n → zero_line (word ∷ words) ≡ first_zero words
zero_line-some word words n is l =
    ap (λ b. cond b (Some word.line) (cond (is_some word) (first_zero words) None)) (some-not_zero word n is l)
    ∙ ap (λ b. cond b (first_zero words) None) (some-word word n is l)

pub zero_line-fault : (end : ℕ) (words : List TextWord) (f : Fault) → first_number end words ≡ Err f → zero_line words ≡ None
zero_line-fault end [] f e = refl
zero_line-fault end (word ∷ words) f e =
    let n = fault-neither word f e in
    ap (λ b. cond b (Some word.line) (cond (is_some word) (first_zero words) None)) n.no_zero
    ∙ ap (λ b. cond b (first_zero words) None) n.no_number

-- ---- the second word

pub first_zero-zero : (word : TextWord) (words : List TextWord) → is_zero word ≡ true → first_zero (word ∷ words) ≡ Some word.line
first_zero-zero word words e = ap (λ b. cond b (Some word.line) None) e

pub first_zero-some : (word : TextWord) (words : List TextWord) → is_zero word ≡ false → first_zero (word ∷ words) ≡ None
first_zero-some word words e = ap (λ b. cond b (Some word.line) None) e

pub first_zero-fault : (end : ℕ) (words : List TextWord) (f : Fault) → first_number end words ≡ Err f → first_zero words ≡ None
first_zero-fault end [] f e = refl
first_zero-fault end (word ∷ words) f e = first_zero-some word words (fault-neither word f e).no_zero

-- ---- files

-- numbers that are not 0 have no line of one that is
pub none-zero : (words : List TextWord) (n m : ℕ) (ns : List ℕ) → AllZip IsNumber words (n ∷ m ∷ ns) → 1 ≤ n → 1 ≤ m → zero_line words ≡ None
none-zero [] n m ns h l k = absurd h
none-zero (w ∷ []) n m ns h l k = absurd h.1
none-zero (w ∷ v ∷ words) n m ns h l k = zero_line-some w (v ∷ words) n h.0 l ∙ first_zero-some v words (some-not_zero v m h.1.0 k)

pub record AreSome (n m : ℕ) : Type 0 where
  pub first : 1 ≤ n
  pub second : 1 ≤ m

not_none : (line : ℕ) (o : Option ℕ) → o ≡ Some line → o ≡ None → ⊥
not_none line o e f = let g : Some line ≡ None = sym e ∙ f in cc

-- and where no line has one, neither is 0
pub zero-none : (words : List TextWord) (n m : ℕ) (ns : List ℕ) → AllZip IsNumber words (n ∷ m ∷ ns) → zero_line words ≡ None → AreSome n m
zero-none [] n m ns h e = absurd h
zero-none (w ∷ []) n m ns h e = absurd h.1
zero-none (w ∷ v ∷ words) n m ns h e =
    elim (cases_eq n 0) [
      | inl none ↦ absurd (not_none w.line (zero_line (w ∷ v ∷ words)) (zero_line-zero w (v ∷ words) (zero-word w n h.0 none)) e)
      | inr some ↦
          let one : 1 ≤ n = omega (arith, some) in
          elim (cases_eq m 0) [
            | inl none ↦ absurd (not_none v.line (zero_line (w ∷ v ∷ words)) (zero_line-some w (v ∷ words) n h.0 one ∙ first_zero-zero v words (zero-word v m h.1.0 none)) e)
            | inr more ↦ record { first = one; second = omega (arith, more) }
          ]
    ]

-- A value that is a number of cities.
use Rattle.std.proofs.Common.{◌≡◌, ℕ, ◌<◌, ◌≤◌, Bool, true, false, cond, ◌&&◌, ◌==◌, length, leb, ltb, List, [], ◌∷◌, Some, None, Result, Ok, Err, refl, sym, ap, ◌∙◌, arith, inl, inr}
use Rattle.std.proofs.lemmas.Bool.{cases_Bool, le-leb, lt-ltb, le-ltb, true≢false}
use Rattle.yew_text.specs.declared.text.TextFault.{TextFault}
use Rattle.yew_text.specs.declared.text.TextKind.TheVariants.{NotNumber, TooBig, BadLine}
use Rattle.yew_text.specs.Numbers.{is_digits, value_of, greatest, number_in, first_number, Fault}
use Rattle.yew_text.specs.Position.{Position, start_of, words_left}
use Rattle.yew_text.specs.Reading.{text_fault, TakesNumber}
use Rattle.yew_text.specs.Words.{TextWord, is_nonempty, end_line}
use Rattle.yew_text.proofs.Splitting.{words_from-one, digits_black}
use Rattle.yew_text.proofs.Steps.{number_is}
use Rattle.yew_tsp.specs.FileReading.{dimension_fault}
use Rattle.yew_tsp.specs.Keys.{is_number}

abbrev word_of : List ℕ → TextWord
word_of value = record { text = value; line = 1 }

module _ (value : List ℕ) (digits : is_digits value ≡ true) (some : is_nonempty value ≡ true) where
  number : is_number value ≡ true
  number = ap (λ b. b && is_digits value) some ∙ digits

  one_word : (v : List ℕ) → is_digits v ≡ true → is_nonempty v ≡ true → words_left (start_of v) ≡ word_of v ∷ []
  one_word [] d s = absurd (true≢false (sym s))
  one_word (b ∷ v) d s = words_from-one 1 b v (digits_black (b ∷ v) d)

  module _ (new : Position) where
    module _ (n : ℕ) (takes : TakesNumber (start_of value) (Ok n) new) where
      taken : number_in (word_of value) ≡ Ok n
      taken = ap (first_number (end_line value)) (sym (one_word value digits some)) ∙ takes.gives

      pub value_is : n ≡ value_of value
      value_is = (number_is (word_of value) n taken).value

      most : n ≤ greatest
      most = (number_is (word_of value) n taken).fits

      fault_is : (b : Bool) → ltb (value_of value) 2 ≡ b → dimension_fault value ≡ cond b (Some BadLine) None
      fault_is b small =
          let is = value_is in let l = most in
          ap (λ c. cond c (cond (leb (value_of value) greatest) (cond (ltb (value_of value) 2) (Some BadLine) None) (Some TooBig)) (Some NotNumber)) number
          ∙ ap (λ c. cond c (cond (ltb (value_of value) 2) (Some BadLine) None) (Some TooBig)) (le-leb (value_of value) greatest (omega (arith, is, l)))
          ∙ ap (λ c. cond c (Some BadLine) None) small

      pub too_few : n < 2 → dimension_fault value ≡ Some BadLine
      too_few l = let is = value_is in fault_is true (lt-ltb (value_of value) 2 (omega (arith, is, l)))

      pub enough : 2 ≤ n → dimension_fault value ≡ None
      enough l = let is = value_is in fault_is false (le-ltb (value_of value) 2 (omega (arith, is, l)))

    pub too_big : (f : TextFault) → TakesNumber (start_of value) (Err f) new → dimension_fault value ≡ Some TooBig
    too_big f takes =
        let e : number_in (word_of value) ≡ Err (text_fault f) = ap (first_number (end_line value)) (sym (one_word value digits some)) ∙ takes.gives in
        ap (λ c. cond c (cond (leb (value_of value) greatest) (cond (ltb (value_of value) 2) (Some BadLine) None) (Some TooBig)) (Some NotNumber)) number
        ∙ elim (cases_Bool (leb (value_of value) greatest)) [
          | inl fits ↦ absurd (let h : number_in (word_of value) ≡ Ok (value_of value) = ap (λ c. cond c (cond (leb (value_of value) greatest) (Ok (value_of value)) (Err (record { kind = TooBig; line = 1 }))) (Err (record { kind = NotNumber; line = 1 }))) digits ∙ ap (λ c. cond c (Ok (value_of value)) (Err (record { kind = TooBig; line = 1 }))) fits in let k : ◌≡◌ {A = Result ℕ Fault} (Ok (value_of value)) (Err (text_fault f)) = sym h ∙ e in cc)
          | inr large ↦ ap (λ c. cond c (cond (ltb (value_of value) 2) (Some BadLine) None) (Some TooBig)) large
        ]

pub nonempty-from : (value : List ℕ) → (length value == 0) ≡ false → is_nonempty value ≡ true
nonempty-from [] e = absurd (true≢false e)
nonempty-from (b ∷ value) e = refl

-- What the parser of std answers for a number's word.
use Rattle.std.proofs.Common.{inl, inr, rules, arith, ◌≡◌, ℕ, ◌<◌, ◌^◌, true, false, [], ◌∷◌, length, Result, refl}
use Rattle.std.specs.Prelude.{IsTrue, Err, Some, nat_le}
use Rattle.yew_words.specs.declared.plan.UsageKind.TheVariants.{OutOfRange}
use Rattle.yew_words.specs.declared.table.Takes.TheVariants.{Number}
use Rattle.yew_words.specs.Kept.{value_fault}
use Rattle.std.specs.List.{list_all}
use Rattle.std.specs.Char.{is_ascii_digit}
use Rattle.std.specs.Result.{OkIff}
use Rattle.std.specs.Str.Parse.{digits_value, ParsesUnsigned}
use Rattle.std.proofs.lemmas.Str.Parse.{IsNumeralModel, numerals_by_value, parse_digits}
use Rattle.std.proofs.lemmas.Bool.{and_parts, and_right, lt-leb, cases_lt}
use Rattle.yew_words.specs.Word.{Word, is_number, number_of}

numerals : IsNumeralModel (λ ds. list_all is_ascii_digit ds ≡ true) (digits_value 10)
numerals = numerals_by_value (λ ds. list_all is_ascii_digit ds ≡ true) (search rules)

are_digits : (word : Word) → IsTrue (is_number word) → list_all is_ascii_digit word ≡ true
are_digits [] h = absurd (let e : false ≡ true = h in cc)
are_digits (c ∷ []) h = rw h refl
are_digits (c ∷ d ∷ ds) h = (and_parts _ _ h).1

is_some_word : (word : Word) → IsTrue (is_number word) → 0 < length word
is_some_word [] h = absurd (let e : false ≡ true = h in cc)
is_some_word (c ∷ cs) h = omega arith

-- The word's number, unless 64 bits are too few.
pub number_parsed : {E : Type 0} (word : Word) (r : Result ℕ E) → ParsesUnsigned 64 10 word r → IsTrue (is_number word)
    → OkIff r ((0 < length word) × (number_of word < 2 ^ 64)) (number_of word)
number_parsed word r h number = parse_digits numerals 64 word r h (are_digits word number)

-- A number that 64 bits cannot hold is outside each range that they can.
pub past_every_range : {E : Type 0} (word : Word) (low high : ℕ) (e : E) → ParsesUnsigned 64 10 word (Err e) → IsTrue (is_number word) → high < 2 ^ 64
    → value_fault (Number low high) word ≡ Some OutOfRange
past_every_range word low high e h number within =
    let some = is_some_word word number in
    let past : high < number_of word = elim (cases_lt high (number_of word))
    [ inl lt ↦ lt | inr le ↦ absurd (number_parsed word (Err e) h number (some, omega arith)) ] in
    rw (number, and_right (nat_le low (number_of word)) (nat_le (number_of word) high) (lt-leb (number_of word) high past)) refl

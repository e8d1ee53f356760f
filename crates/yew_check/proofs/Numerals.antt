-- The decimal numerals are the texts that are spelled as numbers.
use Rattle.std.proofs.Common.{◌≡◌, ◌≢◌, ℕ, zero, suc, ◌<◌, ◌^◌, true, false, List, [], ◌∷◌, length, get_or, refl, sym, arith, rules}
use Rattle.std.specs.Prelude.{decimal, ◌==◌, not}
use Rattle.std.specs.List.{AllByRecursion}
use Rattle.std.specs.Char.{is_ascii_digit}
use Rattle.std.proofs.lemmas.Bool.{and_parts, ne_eqb, both_ways, leb-true}
use Rattle.std.proofs.lemmas.Str.Parse.{IsNumeralModel, numerals_by_value}
use Rattle.std.proofs.lemmas.Fmt.{digits_decimal, digits_value-decimal, decimal-digits_value, first_decimal, decimal_digit}
use Rattle.yew_text.specs.Numbers.{is_digits, value_of}
use Rattle.yew_check.specs.Numbers.{is_spelled}

numerals : IsNumeralModel (λ ds. is_digits ds ≡ true) value_of
numerals = numerals_by_value (λ ds. is_digits ds ≡ true) (search rules)

pub spelled-digits : (ds : List ℕ) → is_spelled ds ≡ true → is_digits ds ≡ true
spelled-digits [] h = refl
spelled-digits (b ∷ []) h = rw h refl
spelled-digits (b ∷ c ∷ bs) h = (and_parts _ _ h).1

spelled-some : (ds : List ℕ) → is_spelled ds ≡ true → 0 < length ds
spelled-some [] h = absurd (cc)
spelled-some (b ∷ bs) h = omega arith

spelled-zero : (ds : List ℕ) → is_spelled ds ≡ true → get_or ds 0 0 ≡ 48 → length ds ≡ 1
spelled-zero [] h z = absurd (cc)
spelled-zero (b ∷ []) h z = refl
spelled-zero (b ∷ c ∷ bs) h z =
    let first = (and_parts _ _ h).0 in
    let e : not (b == 48) ≡ false = rw z refl in
    absurd (both_ways (not (b == 48)) e first)

-- what is spelled as a number is how its value is written
pub spelled-is : (ds : List ℕ) → is_spelled ds ≡ true → value_of ds < 2 ^ 64 → ds ≡ decimal (value_of ds)
spelled-is ds h small = sym (decimal-digits_value numerals ds (spelled-digits ds h) (spelled-some ds h) (spelled-zero ds h) small)

spelled-from : (ds : List ℕ) → is_digits ds ≡ true → 48 < get_or ds 0 0 → is_spelled ds ≡ true
spelled-from [] h more = absurd (omega arith)
spelled-from (b ∷ []) h more = (and_parts _ _ h).0
spelled-from (b ∷ c ∷ bs) h more =
    let other : (b == 48) ≡ false = ne_eqb b 48 (λ e. absurd (omega arith)) in
    rw (other, h) refl

-- a number's digits are spelled as a number
pub decimal-spelled : (n : ℕ) → n < 2 ^ 64 → is_spelled (decimal n) ≡ true
decimal-spelled zero small = rw (decimal_digit 0 (omega arith)) refl
decimal-spelled (suc n) small = spelled-from (decimal (suc n)) (digits_decimal numerals (suc n) small) (first_decimal (suc n) (omega arith) small)

pub decimal-value : (n : ℕ) → n < 2 ^ 64 → value_of (decimal n) ≡ n
decimal-value n small = digits_value-decimal numerals n small

digit-not : (b c : ℕ) → is_ascii_digit b ≡ true → c < 48 → b ≢ c
digit-not b c h low e = let p = and_parts _ _ h in let l = leb-true 48 b p.0 in absurd (omega arith)

digits-without : (c : ℕ) (ds : List ℕ) → c < 48 → is_digits ds ≡ true → AllByRecursion (λ b. b ≢ c) ds
digits-without c [] low h = tt
digits-without c (d ∷ ds) low h = let p = and_parts (is_ascii_digit d) (is_digits ds) h in (digit-not d c p.0 low, digits-without c ds low p.1)

-- a number's digits have no space and no slash
pub decimal-without : (c n : ℕ) → c < 48 → n < 2 ^ 64 → AllByRecursion (λ b. b ≢ c) (decimal n)
decimal-without c n low small = digits-without c (decimal n) low (digits_decimal numerals n small)

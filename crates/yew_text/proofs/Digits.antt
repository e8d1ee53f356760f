-- Digits whose value passes the greatest number.
use Rattle.std.proofs.Common.{◌≡◌, ℕ, suc, ◌+◌, ◌-◌, ◌*◌, ◌<◌, ◌≤◌, true, List, [], ◌∷◌, length, get_or, drop, sym, ap, subst, refl, ◌∙◌, arith, drop-cons}
use Rattle.std.specs.Prelude.{nat_le}
use Rattle.std.specs.Char.{is_ascii_digit, digit_value}
use Rattle.std.specs.Str.Parse.{digits_value_after}
use Rattle.std.proofs.lemmas.Bool.{and_parts, leb-true, lt-ltb, le-ltb}
use Rattle.yew_text.specs.Numbers.{is_digits, value_of}

-- more digits never make a value less
more_digits : (n : ℕ) (ds : List ℕ) → n ≤ digits_value_after 10 n ds
more_digits n [] = omega arith
more_digits n (d ∷ ds) = let h : n * 10 + digit_value d ≤ digits_value_after 10 n (d ∷ ds) = more_digits (n * 10 + digit_value d) ds in omega arith

digit_is : (b : ℕ) → is_ascii_digit b ≡ true → digit_value b ≡ b - 48
digit_is b h =
    let p = and_parts (nat_le 48 b) (nat_le b 57) h in
    let low : 48 ≤ b = leb-true 48 b p.0 in
    let high : b ≤ 57 = leb-true b 57 p.1 in
    rw (le-ltb b 48 low, lt-ltb b 58 (omega arith)) refl

-- the digits from i on make of this value that of the whole text: one digit more is still within it
pub next_within : (value i : ℕ) (text : List ℕ) → i < length text → is_digits (drop i text) ≡ true → digits_value_after 10 value (drop i text) ≡ value_of text → value * 10 + (get_or text i 0 - 48) ≤ value_of text
next_within value i text within digits kept =
    let b = get_or text i 0 in
    let cut = drop-cons text i 0 within in
    let first : is_ascii_digit b ≡ true = (and_parts (is_ascii_digit b) (is_digits (drop (suc i) text)) (subst (λ (xs : List ℕ). is_digits xs ≡ true) cut digits)).0 in
    let is : digit_value b ≡ b - 48 = digit_is b first in
    let more : value * 10 + digit_value b ≤ digits_value_after 10 (value * 10 + digit_value b) (drop (suc i) text) = more_digits (value * 10 + digit_value b) (drop (suc i) text) in
    let whole : digits_value_after 10 (value * 10 + digit_value b) (drop (suc i) text) ≡ value_of text = ap (digits_value_after 10 value) (sym cut) ∙ kept in
    omega arith

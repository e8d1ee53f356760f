-- A quotient by a reciprocal.
use Rattle.std.proofs.Common.{◌≡◌, ℕ, ◌+◌, ◌-◌, ◌*◌, ◌/◌, ◌<◌, ◌≤◌, ◌^◌, ◌∙◌, arith}
use Rattle.std.proofs.Math.Nat.{mul-le-mul_left, mul-le-mul_right, div-mul-le_self, lt-div-mul-add, le-div_iff_mul-le, div-lt_iff_lt-mul}
use Rattle.std.proofs.lemmas.Bool.Decides.{nat_tests}
use Rattle.yew_knap.specs.Places.{reciprocal_of}

reciprocal_is : (w : ℕ) → 0 < w → reciprocal_of w ≡ (2 ^ 64 - 1) / w
reciprocal_is w weighs = grind (arith, nat_tests)

module _ (a w : ℕ) (weighs : 0 < w) (small : a < 2 ^ 64) (m : ℕ) (is : m ≡ reciprocal_of w) where
  below : m * w ≤ 2 ^ 64 - 1
  below = let e = is ∙ reciprocal_is w weighs in rw e (div-mul-le_self (2 ^ 64 - 1) w)

  above : 2 ^ 64 ≤ m * w + w
  above = let e = is ∙ reciprocal_is w weighs in let l = lt-div-mul-add {a = 2 ^ 64 - 1} weighs in rw e (omega (arith, l))

  -- the upper half of the product is not above the quotient
  pub upper-le : a * m / 2 ^ 64 * w ≤ a
  upper-le =
      let half = mul-le-mul_right w (div-mul-le_self (a * m) (2 ^ 64)) in
      let whole = mul-le-mul_left a below in
      omega (arith, half, whole)

  -- and at most 1 below it
  pub upper-more : a < (a * m / 2 ^ 64 + 2) * w
  upper-more =
      let next : a * m + 1 ≤ a * m / 2 ^ 64 * 2 ^ 64 + 2 ^ 64 = (let l : a * m < a * m / 2 ^ 64 * 2 ^ 64 + 2 ^ 64 = lt-div-mul-add {a = a * m} {b = 2 ^ 64} (omega arith) in omega (arith, l)) in
      let half = mul-le-mul_right w next in
      let whole = mul-le-mul_left a above in
      let rest : (a + 1) * w ≤ 2 ^ 64 * w = mul-le-mul_right w (omega (arith, small)) in
      omega (arith, half, whole, rest, weighs)

  pub quotient-upper : a - a * m / 2 ^ 64 * w < w → a * m / 2 ^ 64 ≡ a / w
  quotient-upper l =
      let most = (le-div_iff_mul-le weighs).1 upper-le in
      let least = (div-lt_iff_lt-mul {x = a} {y = a * m / 2 ^ 64 + 1} weighs).1 (omega (arith, l)) in
      omega (arith, most, least)

  pub quotient-next : w ≤ a - a * m / 2 ^ 64 * w → a * m / 2 ^ 64 + 1 ≡ a / w
  quotient-next l =
      let most = (le-div_iff_mul-le {x = a * m / 2 ^ 64 + 1} {y = a} weighs).1 (omega (arith, l, upper-le)) in
      let least = (div-lt_iff_lt-mul {x = a} {y = a * m / 2 ^ 64 + 2} weighs).1 upper-more in
      omega (arith, most, least)

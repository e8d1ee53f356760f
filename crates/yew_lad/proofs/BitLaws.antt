-- What is in a table of bits after one more bit is set.
use Rattle.std.proofs.Common.{◌≡◌, ◌≢◌, ℕ, zero, suc, ◌+◌, ◌*◌, ◌/◌, ◌%◌, ◌^◌, ◌<◌, ◌≤◌, false, ◌&&◌, ◌||◌, ◌==◌, List, length, set, slice_index, replicate, bit_or, bit_and, get_or, refl, ap, ◌∙◌, inl, inr, arith, get_or-set_same, get_or-set_other}
use Rattle.std.specs.Int.{bit_at, w64}
use Rattle.std.proofs.Math.Nat.{mul-le-mul_left}
use Rattle.std.proofs.lemmas.Bool.{cases_eq, cases_order}
use Rattle.std.proofs.lemmas.Bool.Decides.{nat_tests}
use Rattle.std.proofs.lemmas.List.{get_or_default}
use Rattle.std.proofs.lemmas.Nat.Bits.{bit_at-zero, bit_at_set_same, bit_at_set_other, shr_and_one}
use Rattle.yew_lad.specs.Bits.{BitTable, in_row, empty_table, AreBits, SetsBit}

-- words at the same place are of the same row
pub same_row : (a u width x y : ℕ) → x < width → y < width → a * width + x ≡ u * width + y → a ≡ u
same_row a u width x y lx ly e =
    elim (cases_order a u) [
      | inl same ↦ same
      | inr apart ↦
          elim apart [
            | inl less ↦ let few : suc a ≤ u = omega arith in absurd (omega (arith, mul-le-mul_left width few))
            | inr more ↦ let few : suc u ≤ a = omega arith in absurd (omega (arith, mul-le-mul_left width few))
          ]
    ]

-- a word of a row is within the table
pub word_within : (rows width u x : ℕ) → u < rows → x < width → u * width + x < rows * width
word_within rows width u x l m = let few : suc u ≤ rows = omega arith in omega (arith, mul-le-mul_left width few)

pub place_within : (width v : ℕ) → v < 64 * width → v / 64 < width
place_within width v l = omega arith

module _ (rows width : ℕ) (words : List ℕ) (u v : ℕ) (size : length words ≡ rows * width) (row : u < rows) (within : v < 64 * width) where
  abbrev at : ℕ
  at = u * width + v / 64

  abbrev word : ℕ
  word = bit_or (slice_index words at) (1 * 2 ^ (v % 64) % 2 ^ 64)

  abbrev after : List ℕ
  after = set words at word

  here : slice_index after at ≡ word
  here = get_or-set_same words at word 0 (let l = word_within rows width u (v / 64) row (place_within width v within) in omega (arith, l, size))

  bit : (a b : ℕ) → b < 64 * width → bit_at (slice_index after (a * width + b / 64)) (b % 64) == 1 ≡ (bit_at (slice_index words (a * width + b / 64)) (b % 64) == 1 || (a == u && b == v))
  bit a b l =
      elim (cases_eq (a * width + b / 64) at) [
        | inl same ↦
            let own : a ≡ u = same_row a u width (b / 64) (v / 64) (place_within width b l) (place_within width v within) same in
            let parts : b / 64 ≡ v / 64 = omega (arith, same, ap (λ r. r * width) own) in
            let is : bit_at (slice_index after (a * width + b / 64)) (b % 64) ≡ bit_at word (b % 64) = ap (λ i. bit_at (slice_index after i) (b % 64)) same ∙ ap (λ n. bit_at n (b % 64)) here in
            let was : bit_at (slice_index words (a * width + b / 64)) (b % 64) ≡ bit_at (slice_index words at) (b % 64) = ap (λ i. bit_at (slice_index words i) (b % 64)) same in
            elim (cases_eq b v) [
              | inl itself ↦
                  let set_now : bit_at word (b % 64) ≡ 1 = ap (λ n. bit_at word (n % 64)) itself ∙ bit_at_set_same w64 (slice_index words at) (v % 64) (omega arith) in
                  grind (arith, nat_tests, is, set_now, own, itself)
              | inr other ↦
                  let place : b % 64 ≢ v % 64 = λ e. other (omega arith) in
                  let kept = bit_at_set_other w64 (slice_index words at) (v % 64) (omega arith) (b % 64) place in
                  grind (arith, nat_tests, is, was, kept, other)
            ]
        | inr apart ↦
            let is : bit_at (slice_index after (a * width + b / 64)) (b % 64) ≡ bit_at (slice_index words (a * width + b / 64)) (b % 64) = ap (λ n. bit_at n (b % 64)) (get_or-set_other words at (a * width + b / 64) word 0 apart) in
            let not_both : a ≡ u → b ≡ v → ⊥ = λ e f. apart (ap (λ r. r * width + b / 64) e ∙ ap (λ n. u * width + n / 64) f) in
            grind (arith, nat_tests, is, not_both)
      ]

  pub set_bit : SetsBit (record { rows = rows; width = width; words = words }) u v (record { rows = rows; width = width; words = after })
  unfolding in_row
  set_bit = record { same_rows = refl; same_width = refl; bits = bit }

no_word : (n i : ℕ) → slice_index (replicate n 0) i ≡ 0
no_word zero i = refl
no_word (suc n) zero = refl
no_word (suc n) (suc i) = no_word n i

-- an empty table has no bit
pub in_row-empty : (rows width u v : ℕ) → in_row (empty_table rows width) u v ≡ false
unfolding in_row
in_row-empty rows width u v = ap (λ w. bit_at w (v % 64) == 1) (no_word (rows * width) (u * width + v / 64)) ∙ ap (λ b. b == 1) (bit_at-zero (v % 64))

-- a table and what its words are
abbrev pub table_of : ℕ → ℕ → List ℕ → BitTable
table_of rows width words = record { rows = rows; width = width; words = words }

-- the test that reads a bit
pub read_bit : (rows width : ℕ) (words : List ℕ) (u v x : ℕ) → length words ≡ rows * width → u < rows → v < 64 * width → x ≡ get_or words (u * width + v / 64) x → (bit_and (x / 2 ^ (v % 64)) 1 == 1) ≡ in_row (table_of rows width words) u v
unfolding in_row
read_bit rows width words u v x size row within is =
    let l = word_within rows width u (v / 64) row (place_within width v within) in
    let read : x ≡ slice_index words (u * width + v / 64) = is ∙ get_or_default words (u * width + v / 64) x 0 (omega (arith, l, size)) in
    ap (λ n. n == 1) (shr_and_one x (v % 64) ∙ ap (λ n. bit_at n (v % 64)) read)

-- the bits of a word of a row
pub row_bits : (rows width : ℕ) (words : List ℕ) (u number x : ℕ) → length words ≡ rows * width → u < rows → number < width → x ≡ get_or words (u * width + number) x → AreBits x (λ k. in_row (table_of rows width words) u (64 * number + k))
unfolding in_row
row_bits rows width words u number x size row within is k small =
    let l = word_within rows width u number row within in
    let read : x ≡ slice_index words (u * width + number) = is ∙ get_or_default words (u * width + number) x 0 (omega (arith, l, size)) in
    let word : number ≡ (64 * number + k) / 64 = omega arith in
    let place : k ≡ (64 * number + k) % 64 = omega arith in
    ap (λ w. bit_at w k == 1) read
    ∙ ap (λ i. bit_at (slice_index words (u * width + i)) k == 1) word
    ∙ ap (λ j. bit_at (slice_index words (u * width + (64 * number + k) / 64)) j == 1) place

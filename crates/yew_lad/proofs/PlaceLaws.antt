-- The places in a word, taken off one after another.
use Rattle.std.proofs.Common.{◌≡◌, ◌≢◌, ℕ, ◌+◌, ◌-◌, ◌*◌, ◌/◌, ◌%◌, ◌^◌, ◌<◌, ◌≤◌, Bool, true, false, ◌&&◌, ◌==◌, List, [], ◌∷◌, min, bit_and, slice_index, refl, ap, sym, ◌∙◌, inl, inr, arith}
use Rattle.std.specs.Int.{bit_at, trailing_zeros, w64}
use Rattle.std.specs.List.{list_all}
use Rattle.std.proofs.Math.Nat.{mod-lt}
use Rattle.std.proofs.Math.Pow.{pow-lt}
use Rattle.std.proofs.lemmas.Bool.{cases_eq, cases_lt}
use Rattle.std.proofs.lemmas.Bool.Decides.{nat_tests}
use Rattle.std.proofs.lemmas.Nat.{and_le_l, div-add-mod', pow_pos}
use Rattle.std.proofs.lemmas.Nat.Bits.{bit_at-zero, bit_at-lt, bit_at_and, bit_at-pow_same, bit_at-pow_other, bit_at_ones_above, bit_at_cat_low, bit_at_cat_high, bit_at-trailing_zeros, same_from_bits_below}
use Rattle.yew_lad.specs.Bits.{BitTable, in_row, AreBits}
use Rattle.yew_lad.specs.Candidates.{places_in}
use Rattle.yew_lad.proofs.Ranges.{filter-none, filter-pop}

-- a word without its lowest bit
abbrev pub lowest_of : ℕ → ℕ
lowest_of left = trailing_zeros w64 left

abbrev pub after_of : ℕ → ℕ
after_of left = bit_and left (left - 1)

-- the bits of two words together
pub bits_both : (a b k : ℕ) → (bit_at (bit_and a b) k == 1) ≡ ((bit_at a k == 1) && (bit_at b k == 1))
bits_both a b k =
    let both = bit_at_and a b k in
    let one = bit_at-lt a k in
    let other = bit_at-lt b k in
    ap (λ n. n == 1) both ∙ joined (bit_at a k) (bit_at b k) one other
  where
    joined : (m n : ℕ) → m < 2 → n < 2 → (min m n == 1) ≡ ((m == 1) && (n == 1))
    joined m n l r = grind (arith, nat_tests, l, r)

module _ (left : ℕ) (some : left ≢ 0) (fits : left < 2 ^ 64) where
  pub low : (lowest_of left < 64) × (bit_at left (lowest_of left) ≡ 1) × ((i : ℕ) → i < lowest_of left → bit_at left i ≡ 0)
  low = bit_at-trailing_zeros w64 left (omega arith) fits

  pub lowest-small : lowest_of left < 64
  lowest-small = low.0

  pub lowest-in : bit_at left (lowest_of left) ≡ 1
  lowest-in = low.1

  abbrev k : ℕ
  k = lowest_of left

  abbrev high : ℕ
  high = left / 2 ^ (k + 1)

  -- the bits up to the lowest one are this one alone
  lowest-part : left % 2 ^ (k + 1) ≡ 2 ^ k
  lowest-part =
      let parts = div-add-mod' left (2 ^ (k + 1)) in
      let small = mod-lt left (pow_pos (k + 1)) in
      let next : k < k + 1 = omega arith in
      same_from_bits_below (k + 1) (left % 2 ^ (k + 1)) (2 ^ k) small (pow-lt next)
      (λ i l.
      sym (bit_at_cat_low high (k + 1) (left % 2 ^ (k + 1)) i l) ∙ ap (λ n. bit_at n i) parts
      ∙ elim (cases_eq i k) [
        | inl same ↦ ap (bit_at left) same ∙ low.1 ∙ sym (ap (bit_at (2 ^ k)) same ∙ bit_at-pow_same k)
        | inr other ↦ low.2 i (omega arith) ∙ sym (bit_at-pow_other k i other)
      ])

  whole : high * 2 ^ (k + 1) + 2 ^ k ≡ left
  whole = let parts = div-add-mod' left (2 ^ (k + 1)) in let part = lowest-part in omega (arith, parts, part)

  less-one : high * 2 ^ (k + 1) + (2 ^ k - 1) ≡ left - 1
  less-one = let is = whole in let some = pow_pos k in omega (arith, is, some)

  pub gone : bit_at (after_of left) k ≡ 0
  gone =
      let both = bit_at_and left (left - 1) k in
      let none : bit_at (left - 1) k ≡ 0 = ap (λ n. bit_at n k) (sym less-one) ∙ bit_at_cat_low high (k + 1) (2 ^ k - 1) k (omega arith) ∙ bit_at_ones_above k k (omega arith) in
      omega (arith, both, none)

  pub kept : (x : ℕ) → x < 64 → x ≢ k → bit_at (after_of left) x ≡ bit_at left x
  kept x l other =
      let both = bit_at_and left (left - 1) x in
      elim (cases_lt x k) [
        | inl below ↦ let none = low.2 x below in omega (arith, both, none)
        | inr from ↦
            let above : k + 1 ≤ x = omega arith in
            let next : k < k + 1 = omega arith in
            let power : 2 ^ k < 2 ^ (k + 1) = pow-lt next in
            let one : bit_at (left - 1) x ≡ bit_at high (x - (k + 1)) = ap (λ n. bit_at n x) (sym less-one) ∙ bit_at_cat_high high (k + 1) (2 ^ k - 1) x (omega (arith, power)) above in
            let own : bit_at left x ≡ bit_at high (x - (k + 1)) = ap (λ n. bit_at n x) (sym whole) ∙ bit_at_cat_high high (k + 1) (2 ^ k) x power above in
            omega (arith, both, one, own)
      ]

  pub places-pop : places_in left ≡ lowest_of left ∷ places_in (after_of left)
  places-pop =
      filter-pop (λ place. bit_at left place == 1) (λ place. bit_at (after_of left) place == 1) 0 64 (lowest_of left) (omega arith) (omega (arith, low.0))
      (λ x a l other. ap (λ n. n == 1) (sym (kept x (omega arith) other)))
      (ap (λ n. n == 1) low.1) (ap (λ n. n == 1) gone) (λ x a l. ap (λ n. n == 1) (low.2 x l))

  pub after-less : after_of left < left
  after-less =
      let most = and_le_l left (left - 1) in
      let other : after_of left ≢ left = λ e. let same : bit_at (after_of left) (lowest_of left) ≡ bit_at left (lowest_of left) = ap (λ w. bit_at w (lowest_of left)) e in let one = low.1 in let none = gone in absurd (omega arith) in
      omega arith

  -- what is left was there
  pub after-part : (place : ℕ) → bit_at (after_of left) place ≡ 1 → bit_at left place ≡ 1
  after-part place e =
      let both = bit_at_and left (left - 1) place in
      let a = bit_at-lt left place in
      omega (arith, both, a, e)

pub places-none : (left : ℕ) → left ≡ 0 → places_in left ≡ []
places-none left e = ap places_in e ∙ filter-none (λ place. bit_at 0 place == 1) 0 64 (λ x a b. ap (λ n. n == 1) (bit_at-zero x))

-- the bits so far, and what the places that are left keep of them, are those of the start
pub record Keeps (table : BitTable) (images : List ℕ) (number places word left kept : ℕ) : Type 0 where
  pub part : (place : ℕ) → bit_at left place ≡ 1 → bit_at places place ≡ 1
  pub bits : (k : ℕ) → k < 64 → ((bit_at kept k == 1) && list_all (λ place. in_row table (slice_index images place) (64 * number + k)) (places_in left)) ≡ ((bit_at word k == 1) && list_all (λ place. in_row table (slice_index images place) (64 * number + k)) (places_in places))

module _ (table : BitTable) (images : List ℕ) (number places word : ℕ) where
  pub keeps-start : Keeps table images number places word places word
  keeps-start = record { part = λ place e. e; bits = λ k l. refl }

  module _ (left now : ℕ) (keeps : Keeps table images number places word left now) where
    pub keeps-zero : now ≡ 0 → AreBits 0 (λ k. (bit_at word k == 1) && list_all (λ place. in_row table (slice_index images place) (64 * number + k)) (places_in places))
    keeps-zero e k l =
        let none : (bit_at now k == 1) ≡ false = ap (λ w. bit_at w k == 1) e ∙ ap (λ n. n == 1) (bit_at-zero k) in
        ap (λ n. n == 1) (bit_at-zero k)
        ∙ sym (ap (λ b. b && list_all (λ place. in_row table (slice_index images place) (64 * number + k)) (places_in left)) none)
        ∙ keeps.bits k l

    pub keeps-end : left ≡ 0 → AreBits now (λ k. (bit_at word k == 1) && list_all (λ place. in_row table (slice_index images place) (64 * number + k)) (places_in places))
    keeps-end e k l =
        all (bit_at now k == 1)
        ∙ ap (λ ps. (bit_at now k == 1) && list_all (λ place. in_row table (slice_index images place) (64 * number + k)) ps) (sym (places-none left e))
        ∙ keeps.bits k l
      where
        all : (b : Bool) → b ≡ (b && true)
        all b = grind arith

    pub keeps-step : (some : left ≢ 0) (fits : left < 2 ^ 64) (row : ℕ) → AreBits row (λ k. in_row table (slice_index images (lowest_of left)) (64 * number + k)) → Keeps table images number places word (after_of left) (bit_and now row)
    keeps-step some fits row are = record {
      part = λ place e. keeps.part place (after-part left some fits place e);
      bits = λ k l.
          let f : ℕ → Bool = λ place. in_row table (slice_index images place) (64 * number + k) in
          ap (λ b. b && list_all f (places_in (after_of left))) (bits_both now row k ∙ ap (λ b. (bit_at now k == 1) && b) (are k l))
          ∙ assoc (bit_at now k == 1) (f (lowest_of left)) (list_all f (places_in (after_of left)))
          ∙ ap (λ ps. (bit_at now k == 1) && list_all f ps) (sym (places-pop left some fits))
          ∙ keeps.bits k l;
    }
      where
        assoc : (a b c : Bool) → ((a && b) && c) ≡ (a && (b && c))
        assoc a b c = grind arith

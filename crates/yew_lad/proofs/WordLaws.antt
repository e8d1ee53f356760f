-- Sets of vertices as lists of words.
use Rattle.std.proofs.Common.{◌≡◌, ◌≢◌, ℕ, ◌+◌, ◌*◌, ◌/◌, ◌%◌, ◌^◌, ◌<◌, ◌≤◌, Bool, not, ◌&&◌, ◌||◌, ◌==◌, List, [], length, set, take, subst, slice_index, replicate, bit_and, ap, sym, ◌∙◌, inl, inr, arith, get_or-set_same, get_or-set_other}
use Rattle.std.specs.Int.{bit_at, bit_not, w64}
use Rattle.std.proofs.lemmas.Bool.{cases_eq}
use Rattle.std.proofs.lemmas.Bool.Decides.{nat_tests}
use Rattle.std.proofs.lemmas.List.{get_or-replicate, get_or-take, length-take, take_more}
use Rattle.std.specs.List.{AllByRecursion}
use Rattle.std.proofs.lemmas.Nat.Bits.{bit_at_ones, bit_at_clear_same, bit_at_clear_other}
use Rattle.yew_laws.specs.Sets.{contains}
use Rattle.yew_lad.specs.Bits.{has_bit, AreBits}
use Rattle.yew_lad.specs.Lists.{contains-push}
use Rattle.yew_lad.specs.Nodes.{with_image}
use Rattle.yew_lad.specs.NodeWords.{AreUnused}
use Rattle.yew_lad.proofs.Orders.{each-at}

-- the bits of a word of a set
pub word_bits : (words : List ℕ) (number : ℕ) → AreBits (slice_index words number) (λ k. has_bit words (64 * number + k))
unfolding has_bit
word_bits words number k small =
    let word : number ≡ (64 * number + k) / 64 = omega arith in
    let place : k ≡ (64 * number + k) % 64 = omega arith in
    ap (λ i. bit_at (slice_index words i) k == 1) word
    ∙ ap (λ j. bit_at (slice_index words ((64 * number + k) / 64)) j == 1) place

module _ (words : List ℕ) (v : ℕ) (within : v / 64 < length words) where
  abbrev word : ℕ
  word = bit_and (slice_index words (v / 64)) (bit_not w64 (1 * 2 ^ (v % 64) % 2 ^ 64))

  abbrev pub without_bit : List ℕ
  without_bit = set words (v / 64) word

  -- what is left where a member is taken out
  pub bit-cleared : (t : ℕ) → has_bit without_bit t ≡ (has_bit words t && not (v == t))
  unfolding has_bit
  bit-cleared t =
      elim (cases_eq (t / 64) (v / 64)) [
        | inl same ↦
            let here : slice_index without_bit (t / 64) ≡ word = ap (slice_index without_bit) same ∙ get_or-set_same words (v / 64) word 0 within in
            let is : bit_at (slice_index without_bit (t / 64)) (t % 64) ≡ bit_at word (t % 64) = ap (λ n. bit_at n (t % 64)) here in
            let was : bit_at (slice_index words (t / 64)) (t % 64) ≡ bit_at (slice_index words (v / 64)) (t % 64) = ap (λ i. bit_at (slice_index words i) (t % 64)) same in
            elim (cases_eq t v) [
              | inl itself ↦
                  let clear : bit_at word (t % 64) ≡ 0 = ap (λ n. bit_at word (n % 64)) itself ∙ bit_at_clear_same w64 (slice_index words (v / 64)) (v % 64) (omega arith) in
                  grind (arith, nat_tests, is, clear, itself)
              | inr other ↦
                  let place : t % 64 ≢ v % 64 = λ e. other (omega arith) in
                  let kept = bit_at_clear_other w64 (slice_index words (v / 64)) (v % 64) (omega arith) (t % 64) (omega arith) place in
                  grind (arith, nat_tests, is, was, kept, other)
            ]
        | inr apart ↦
            let is : bit_at (slice_index without_bit (t / 64)) (t % 64) ≡ bit_at (slice_index words (t / 64)) (t % 64) = ap (λ n. bit_at n (t % 64)) (get_or-set_other words (v / 64) (t / 64) word 0 apart) in
            let other : v ≢ t = λ e. apart (ap (λ n. n / 64) (sym e)) in
            grind (arith, nat_tests, is, other)
      ]

-- at the start every vertex is unused
pub all_unused : AreUnused [] (replicate 16 18446744073709551615)
unfolding has_bit
all_unused = record {
  each = λ t small.
      ap (λ w. bit_at w (t % 64) == 1) (get_or-replicate 16 (t / 64) 18446744073709551615 0 (omega arith))
      ∙ ap (λ b. b == 1) (bit_at_ones 64 (t % 64) (omega arith));
}

pub unused-without : (images words : List ℕ) (v : ℕ) → length words ≡ 16 → v < 1024 → AreUnused images words → AreUnused (with_image images v) (set words (v / 64) (bit_and (slice_index words (v / 64)) (bit_not w64 (1 * 2 ^ (v % 64) % 2 ^ 64))))
unused-without images words v size small unused = record {
  each = λ t l.
      bit-cleared words v (omega arith) t
      ∙ ap (λ b. b && not (v == t)) (unused.each t l)
      ∙ both (contains images t) (v == t)
      ∙ ap not (sym (contains-push images v t));
}
  where
    both : (a b : Bool) → (not a && not b) ≡ not (a || b)
    both a b = grind arith

-- one image more is used
pub unused-more : (images words : List ℕ) (count place : ℕ) → place < count → count ≤ length images → length words ≡ 16 → AllByRecursion (λ t. t < 1024) (take count images) → AreUnused (take place images) words
    → AreUnused (take (place + 1) images) (set words (slice_index images place / 64) (bit_and (slice_index words (slice_index images place / 64)) (bit_not w64 (1 * 2 ^ (slice_index images place % 64) % 2 ^ 64))))
unused-more images words count place l fits size small unused =
    let t = slice_index images place in
    let taken = length-take count images in
    let below : t < 1024 = subst (λ n. n < 1024) (get_or-take count images place 0 l) (each-at (λ n. n < 1024) (take count images) place 0 small (omega (arith, taken, fits, l))) in
    subst (λ xs. AreUnused xs (set words (t / 64) (bit_and (slice_index words (t / 64)) (bit_not w64 (1 * 2 ^ (t % 64) % 2 ^ 64))))) (sym (take_more images place 0 (omega arith)))
    (unused-without (take place images) words t size below unused)

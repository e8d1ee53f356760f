-- What is in a set of items after one more item.
use Rattle.std.specs.Prelude.{◌≡◌, ℕ, ◌<◌, ◌/◌, ◌%◌, ◌^◌, ◌*◌, false, ◌||◌, ◌==◌, length, bit_or, slice_index, refl}
use Rattle.std.specs.Int.{bit_at}
use Rattle.std.proofs.Common.{zero, suc, ◌≢◌, ap, ◌∙◌, inl, inr, arith, get_or-set_same, get_or-set_other}
use Rattle.std.proofs.Math.ListN.{length-set}
use Rattle.std.proofs.Math.Nat.{mod-eq_of_lt}
use Rattle.std.proofs.Math.Pow.{pow-lt}
use Rattle.std.proofs.lemmas.Bool.{cases_eq}
use Rattle.std.proofs.lemmas.Bool.Decides.{nat_tests}
use Rattle.std.proofs.lemmas.Nat.Bits.{bit_at-zero, bit_at_or, bit_at-pow_same, bit_at-pow_other, bit_at-lt}
use Rattle.yew_knap.specs.declared.item_sets.ItemSet.{ItemSet}
use Rattle.yew_knap.specs.ItemSets.{no_items, has_item, with_item}

no_word : (i : ℕ) → slice_index no_items.words i ≡ 0
no_word zero = refl
no_word (suc zero) = refl
no_word (suc (suc zero)) = refl
no_word (suc (suc (suc zero))) = refl
no_word (suc (suc (suc (suc i)))) = refl

-- no item is in the empty set
pub has_item-no_items : (k : ℕ) → has_item no_items k ≡ false
unfolding has_item
has_item-no_items k = rw (no_word (k / 64), bit_at-zero (k % 64)) refl

pub length-with_item : (items : ItemSet) (j : ℕ) → length (with_item items j).words ≡ length items.words
unfolding with_item
length-with_item items j = length-set items.words (j / 64) (bit_or (slice_index items.words (j / 64)) (2 ^ (j % 64)))

word_here : (items : ItemSet) (j : ℕ) → length items.words ≡ 4 → j < 256 → slice_index (with_item items j).words (j / 64) ≡ bit_or (slice_index items.words (j / 64)) (2 ^ (j % 64))
unfolding with_item
word_here items j size small =
    get_or-set_same items.words (j / 64) (bit_or (slice_index items.words (j / 64)) (2 ^ (j % 64))) 0 (omega arith)

word_elsewhere : (items : ItemSet) (j k : ℕ) → k / 64 ≢ j / 64 → slice_index (with_item items j).words (k / 64) ≡ slice_index items.words (k / 64)
unfolding with_item
word_elsewhere items j k other =
    get_or-set_other items.words (j / 64) (k / 64) (bit_or (slice_index items.words (j / 64)) (2 ^ (j % 64))) 0 other

-- a one at a place of a word
pub shl_one : (k : ℕ) → k < 64 → 1 * 2 ^ k % 2 ^ 64 ≡ 2 ^ k
shl_one k within = let low : 1 * 2 ^ k < 2 ^ 64 = omega (arith, pow-lt within) in mod-eq_of_lt low ∙ omega arith

abbrev bit_of : ItemSet → ℕ → ℕ
bit_of items k = bit_at (slice_index items.words (k / 64)) (k % 64)

bit_here : (items : ItemSet) (j : ℕ) → length items.words ≡ 4 → j < 256 → bit_of (with_item items j) j ≡ 1
bit_here items j size small =
    let word = slice_index items.words (j / 64) in
    let e : bit_of (with_item items j) j ≡ bit_at (bit_or word (2 ^ (j % 64))) (j % 64) = ap (λ w. bit_at w (j % 64)) (word_here items j size small) in
    let both = bit_at_or word (2 ^ (j % 64)) (j % 64) in
    let one = bit_at-pow_same (j % 64) in
    let low = bit_at-lt word (j % 64) in
    omega (arith, e, both, one, low)

bit_elsewhere : (items : ItemSet) (j k : ℕ) → length items.words ≡ 4 → j < 256 → k ≢ j → bit_of (with_item items j) k ≡ bit_of items k
bit_elsewhere items j k size small other =
    elim (cases_eq (k / 64) (j / 64)) [
      | inl same ↦
          let word = slice_index items.words (j / 64) in
          let apart : k % 64 ≢ j % 64 = λ e. other (omega arith) in
          let here : slice_index (with_item items j).words (k / 64) ≡ bit_or word (2 ^ (j % 64)) = ap (slice_index (with_item items j).words) same ∙ word_here items j size small in
          let e : bit_of (with_item items j) k ≡ bit_at (bit_or word (2 ^ (j % 64))) (k % 64) = ap (λ w. bit_at w (k % 64)) here in
          let both = bit_at_or word (2 ^ (j % 64)) (k % 64) in
          let none = bit_at-pow_other (j % 64) (k % 64) apart in
          let was : bit_of items k ≡ bit_at word (k % 64) = ap (λ i. bit_at (slice_index items.words i) (k % 64)) same in
          omega (arith, e, both, none, was)
      | inr apart ↦ ap (λ w. bit_at w (k % 64)) (word_elsewhere items j k apart)
    ]

-- one more item is in the set, and all others are in it as before
pub has_item-with_item : (items : ItemSet) (j k : ℕ) → length items.words ≡ 4 → j < 256 → has_item (with_item items j) k ≡ (has_item items k || k == j)
unfolding has_item
has_item-with_item items j k size small =
    elim (cases_eq k j) [
      | inl same ↦
          let one : bit_of (with_item items j) k ≡ 1 = ap (bit_of (with_item items j)) same ∙ bit_here items j size small in
          grind (arith, nat_tests, one, same)
      | inr other ↦
          let e = bit_elsewhere items j k size small other in
          grind (arith, nat_tests, e, other)
    ]

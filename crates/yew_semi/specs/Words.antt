-- Numerical semigroups as words. What stands near the Frobenius number F is a word of 64 bits, by the distance from F.
use Rattle.std.specs.Prelude.{◌≡◌, ◌≢◌, ℕ, ◌+◌, ◌-◌, ◌^◌, ◌<◌, ◌≤◌, true, false, List, filter, length, ◌==◌}
use Rattle.std.specs.Int.{bit_at}
use Rattle.std.specs.List.{range_with_len}
use Rattle.yew_laws.specs.Sets.{contains}
use Rattle.yew_semi.specs.SemigroupTree.{is_generator}

-- the places of the bits of a word of 128 bits, rising
unfoldable pub bits_of : ℕ → List ℕ
bits_of word = filter (λ x. bit_at word x == 1) (range_with_len 0 128)

-- the numbers of a window, rising: bit i of a window from a number on stands for the number i above it
unfoldable pub window_of : ℕ → ℕ → List ℕ
window_of from window = filter (λ x. bit_at window (x - from) == 1) (range_with_len from 64)

-- the least number from 1 up that is no gap
pub record IsLeastMember (gaps : List ℕ) (multiplicity : ℕ) : Type 0 where
  pub positive : 0 < multiplicity
  pub member : contains gaps multiplicity ≡ false
  pub least : (x : ℕ) → 0 < x → x < multiplicity → contains gaps x ≡ true

-- the Frobenius number, the greatest gap, or 0 where there is none
pub record IsGreatestGap (gaps : List ℕ) (frobenius : ℕ) : Type 0 where
  pub gap : 0 < frobenius → contains gaps frobenius ≡ true
  pub greatest : (x : ℕ) → contains gaps x ≡ true → x ≤ frobenius

-- what the words of a semigroup say of it: 0 is no gap, and bit i of the mirror says whether F - i is a member from 1 up
pub record AreWords (gaps mirror frobenius multiplicity genus : ℕ) : Type 0 where
  pub gaps_fit : gaps < 2 ^ 128
  pub mirror_fits : mirror < 2 ^ 64
  pub zero_inside : bit_at gaps 0 ≡ 0
  pub mirrored : (i : ℕ) → i < 64 → i < frobenius → bit_at mirror i ≡ 1 - bit_at gaps (frobenius - i)
  pub mirror_ends : (i : ℕ) → frobenius ≤ i → bit_at mirror i ≡ 0
  pub greatest : IsGreatestGap (bits_of gaps) frobenius
  pub least : IsLeastMember (bits_of gaps) multiplicity
  pub count : genus ≡ length (bits_of gaps)

-- the generators above the Frobenius number, as a window from there on, but perhaps for the number that is the multiplicity
-- above it
pub record AreInherited (gaps : List ℕ) (frobenius multiplicity inherited : ℕ) : Type 0 where
  pub fits : inherited < 2 ^ 64
  pub each : (i : ℕ) → bit_at inherited i ≡ 1 → is_generator gaps (frobenius + i) ≡ true
  pub others : (x : ℕ) → x ≢ frobenius + multiplicity → is_generator gaps x ≡ true → bit_at inherited (x - frobenius) ≡ 1

-- the generators that are greater than one of them, as a window from it on
pub record AreGreater (gaps : List ℕ) (generator greater : ℕ) : Type 0 where
  pub fits : greater < 2 ^ 64
  pub each : (i : ℕ) → bit_at greater i ≡ 1 → (0 < i) × (is_generator gaps (generator + i) ≡ true)
  pub others : (x : ℕ) → generator < x → is_generator gaps x ≡ true → bit_at greater (x - generator) ≡ 1

-- generators above the Frobenius number, and with each of them all that are greater, as a window from the Frobenius number on
pub record AreLeft (gaps : List ℕ) (frobenius left : ℕ) : Type 0 where
  pub fits : left < 2 ^ 64
  pub each : (i : ℕ) → bit_at left i ≡ 1 → is_generator gaps (frobenius + i) ≡ true
  pub greater : (i x : ℕ) → bit_at left i ≡ 1 → frobenius + i ≤ x → is_generator gaps x ≡ true → bit_at left (x - frobenius) ≡ 1

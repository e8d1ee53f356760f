use Rattle.std.proofs.Common.{◌≡◌, ℕ, ◌+◌, ◌-◌, ◌*◌, ◌%◌, ◌^◌, ◌<◌, ◌≤◌, true, max, List, bit_or, sym, subst, ap, ◌∙◌, arith}
use Rattle.std.proofs.lemmas.List.{length_push}
use Rattle.std.proofs.lemmas.Nat.{or_lt, pow_below, pow_pos}
use Rattle.std.proofs.lemmas.Nat.Bits.{bit_at_or, bit_at_set_same, bit_at_set_other, bit_at_mask_inside, bit_at_mask_below, bit_at_mask_above}
use Rattle.std.proofs.Math.Nat.{mod-eq_of_lt, mod-lt}
use Rattle.std.proofs.Math.Pow.{pow_mono}
use Rattle.std.specs.Int.{bit_at, w128}
use Rattle.yew_semi.specs.GapLaws.{IsMinimal, minimal-from_test}
use Rattle.yew_semi.specs.SemigroupTree.{is_generator, without, IsSemigroup}
use Rattle.yew_semi.specs.Words.{bits_of, IsLeastMember, AreWords, AreInherited}
use Rattle.yew_semi.proofs.Bits.{bit_at-raised, bit_at-raised_low}
use Rattle.yew_semi.proofs.Inherited.{AreSmall, small-without}
use Rattle.yew_semi.proofs.Words.{above-greatest, words-without, bits_of-push}
use Rattle.yew_semi.proofs.semigroup.Words.child.Goals as goal

-- the mirror seen from a greater number
abbrev raised_of : ℕ → ℕ → ℕ
raised_of mirror d = bit_or (mirror * 2 ^ d % 2 ^ 64) (1 * 2 ^ d % 2 ^ 64 - 2)

module _ (mirror d : ℕ) (positive : 0 < d) (within : d < 64) where
  power : 1 * 2 ^ d % 2 ^ 64 ≡ 2 ^ d
  power = let whole : 1 * 2 ^ d ≡ 2 ^ d = omega arith in ap (λ n. n % 2 ^ 64) whole ∙ mod-eq_of_lt (pow_below d 64 within)

  least-power : 2 ≤ 1 * 2 ^ d % 2 ^ 64
  least-power = let most = pow_mono positive in omega (arith, power)

  raised-fits : raised_of mirror d < 2 ^ 64
  raised-fits =
      let small = mod-lt (1 * 2 ^ d) (pow_pos 64) in
      or_lt 64 (mirror * 2 ^ d % 2 ^ 64) (1 * 2 ^ d % 2 ^ 64 - 2) (mod-lt (mirror * 2 ^ d) (pow_pos 64)) (omega arith)

  raised-bit : (i : ℕ) → bit_at (raised_of mirror d) i ≡ max (bit_at (mirror * 2 ^ d % 2 ^ 64) i) (bit_at (2 ^ d - 2 ^ 1) i)
  raised-bit i =
      bit_at_or (mirror * 2 ^ d % 2 ^ 64) (1 * 2 ^ d % 2 ^ 64 - 2) i
      ∙ ap (λ n. max (bit_at (mirror * 2 ^ d % 2 ^ 64) i) (bit_at (n - 2) i)) power

  raised-itself : bit_at (raised_of mirror d) 0 ≡ 0
  raised-itself =
      let bit = raised-bit 0 in
      let old = bit_at-raised_low mirror d 64 0 (omega arith) positive in
      let new = bit_at_mask_below 1 d 0 (omega arith) in
      omega arith

  raised-between : (i : ℕ) → 0 < i → i < d → i < 64 → bit_at (raised_of mirror d) i ≡ 1
  raised-between i from below small =
      let bit = raised-bit i in
      let old = bit_at-raised_low mirror d 64 i small below in
      let new = bit_at_mask_inside 1 d i from below in
      omega arith

  raised-moved : (i : ℕ) → d ≤ i → i < 64 → bit_at (raised_of mirror d) i ≡ bit_at mirror (i - d)
  raised-moved i past small =
      let bit = raised-bit i in
      let old = bit_at-raised mirror d 64 i small past in
      let new = bit_at_mask_above 1 d i past in
      omega arith

module _ (gaps mirror f m genus g m' inherited : ℕ) (words : AreWords gaps mirror f m genus) (window : g < f + 64) (test : is_generator (bits_of gaps) g ≡ true) (small : AreSmall g m') where
  minimal : IsMinimal (bits_of gaps) g
  minimal = minimal-from_test (bits_of gaps) g test

  past : f < g
  past = above-greatest (bits_of gaps) f g words.greatest minimal

  ahead : (0 < g - f) × (g - f < 64)
  ahead = let less = past in (omega arith, omega arith)

  place : g < 128
  place = let gap = small.gap in omega arith

  gaps-is : bits_of (bit_or gaps (1 * 2 ^ g % 2 ^ 128)) ≡ without (bits_of gaps) g
  gaps-is = bits_of-push gaps (bit_or gaps (1 * 2 ^ g % 2 ^ 128)) g place (bit_at_set_same w128 gaps g place) (bit_at_set_other w128 gaps g place) minimal.above

  words-are : IsLeastMember (without (bits_of gaps) g) m' → AreWords (bit_or gaps (1 * 2 ^ g % 2 ^ 128)) (raised_of mirror (g - f)) g m' (genus + 1)
  words-are least =
      words-without gaps mirror f m genus (bit_or gaps (1 * 2 ^ g % 2 ^ 128)) (raised_of mirror (g - f)) m' g words place minimal least
      (or_lt 128 gaps (1 * 2 ^ g % 2 ^ 128) words.gaps_fit (mod-lt (1 * 2 ^ g) (pow_pos 128)))
      (bit_at_set_same w128 gaps g place) (bit_at_set_other w128 gaps g place)
      (raised-fits mirror (g - f) ahead.0 ahead.1) (raised-itself mirror (g - f) ahead.0 ahead.1) (raised-between mirror (g - f) ahead.0 ahead.1) (raised-moved mirror (g - f) ahead.0 ahead.1)

-- what the semigroup without the generator has
small-of : (xs : List ℕ) (g m : ℕ) → is_generator xs g ≡ true → IsSemigroup 40 (without xs g) → IsLeastMember (without xs g) m → AreSmall g m
small-of xs g m test semigroup least = small-without xs g m semigroup (minimal-from_test xs g test) least

pub overflow_sub-ahead : goal.overflow_sub-ahead
overflow_sub-ahead c =
    let s = c.args.self in
    let less = past s.gaps s.mirror s.frobenius s.multiplicity s.genus c.args.generator c.args.multiplicity c.args.inherited c.requires.words c.requires.generator.0 c.requires.generator.1
    (small-of (bits_of s.gaps) c.args.generator c.args.multiplicity c.requires.generator.1 c.requires.small c.requires.multiplicity) in
    omega arith

pub overflow_sub-result : goal.overflow_sub-result
overflow_sub-result c =
    let s = c.args.self in
    let ahead : (0 < c.args.generator - s.frobenius) × (c.args.generator - s.frobenius < 64) = ahead s.gaps s.mirror s.frobenius s.multiplicity s.genus c.args.generator c.args.multiplicity c.args.inherited c.requires.words c.requires.generator.0 c.requires.generator.1
    (small-of (bits_of s.gaps) c.args.generator c.args.multiplicity c.requires.generator.1 c.requires.small c.requires.multiplicity) in
    least-power s.mirror (c.args.generator - s.frobenius) ahead.0 ahead.1

pub overflow_add-result : goal.overflow_add-result
overflow_add-result c =
    let few = c.requires.small.few in
    let longer = length_push (bits_of c.args.self.gaps) c.args.generator in
    let count = c.requires.words.count in
    omega arith

pub returns : goal.returns
returns c =
    let s = c.args.self in
    gaps-is s.gaps s.mirror s.frobenius s.multiplicity s.genus c.args.generator c.args.multiplicity c.args.inherited c.requires.words c.requires.generator.0 c.requires.generator.1
    (small-of (bits_of s.gaps) c.args.generator c.args.multiplicity c.requires.generator.1 c.requires.small c.requires.multiplicity)

pub invariant_of-result : goal.invariant_of-result
invariant_of-result c =
    let s = c.args.self in
    let g = c.args.generator in
    let m = c.args.multiplicity in
    let small = small-of (bits_of s.gaps) g m c.requires.generator.1 c.requires.small c.requires.multiplicity in
    let is = gaps-is s.gaps s.mirror s.frobenius s.multiplicity s.genus g m c.args.inherited c.requires.words c.requires.generator.0 c.requires.generator.1 small in (
      words-are s.gaps s.mirror s.frobenius s.multiplicity s.genus g m c.args.inherited c.requires.words c.requires.generator.0 c.requires.generator.1 small c.requires.multiplicity,
      subst (λ xs. AreInherited xs g m c.args.inherited) (sym is) c.requires.inherited,
    )

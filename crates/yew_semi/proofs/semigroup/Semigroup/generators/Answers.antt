use Rattle.std.proofs.Common.{◌≡◌, ℕ, ◌+◌, ◌*◌, ◌%◌, ◌^◌, ◌<◌, List, map, bit_or, ap, sym, subst, ◌∙◌, arith}
use Rattle.std.proofs.lemmas.Nat.{or_lt, pow_pos}
use Rattle.std.proofs.lemmas.Nat.Bits.{bit_at_set_same, bit_at_set_other}
use Rattle.std.proofs.Math.Nat.{mod-lt}
use Rattle.std.specs.Int.{w64}
use Rattle.yew_semi.specs.SemigroupLaws.{known-from}
use Rattle.yew_semi.specs.SemigroupTree.{without, generators_above, IsSemigroup}
use Rattle.yew_semi.specs.Words.{bits_of, window_of, IsGreatestGap, AreWords, AreInherited}
use Rattle.yew_semi.proofs.Inherited.{AreSmall, small-from}
use Rattle.yew_semi.proofs.Words.{sums_of, AreAll, all-with, all-without, left-from_all, minimal-from_sums, sums-from_minimal, window_of-generators}
use Rattle.yew_semi.proofs.semigroup.Semigroup.generators.Goals as goal

module _ (gaps mirror f m genus inherited : ℕ) (words : AreWords gaps mirror f m genus) (given : AreInherited (bits_of gaps) f m inherited) (small : AreSmall f m) where
  candidate-small : (f + m < 128) × (m < 64)
  candidate-small = let gap = small.gap in let member = small.member in (omega arith, omega arith)

  with_candidate : sums_of gaps mirror m ≡ 0 → AreAll (bits_of gaps) f (bit_or inherited (1 * 2 ^ m % 2 ^ 64))
  with_candidate none =
      all-with (bits_of gaps) f m inherited (bit_or inherited (1 * 2 ^ m % 2 ^ 64)) words.greatest given
      (minimal-from_sums gaps mirror f m genus words candidate-small.0 none)
      (or_lt 64 inherited (1 * 2 ^ m % 2 ^ 64) given.fits (mod-lt (1 * 2 ^ m) (pow_pos 64)))
      (bit_at_set_same w64 inherited m candidate-small.1) (bit_at_set_other w64 inherited m candidate-small.1)

  without_candidate : (sums_of gaps mirror m ≡ 0 → ⊥) → AreAll (bits_of gaps) f inherited
  without_candidate some = all-without (bits_of gaps) f m inherited given (λ minimal. some (sums-from_minimal gaps mirror f m genus words candidate-small.0 minimal))

children-are : (xs ys : List ℕ) (f left : ℕ) → xs ≡ ys → IsSemigroup 40 ys → IsGreatestGap xs f → AreAll xs f left → map (without xs) (window_of f left) ≡ map (without ys) (generators_above ys)
children-are xs ys f left is semigroup greatest all =
    ap (map (without xs)) (window_of-generators xs f left (known-from (subst (IsSemigroup 40) (sym is) semigroup)) greatest all)
    ∙ ap (λ zs. map (without zs) (generators_above zs)) is

-- what the semigroup has that the words stand for
small-of : (gaps : ℕ) (ys : List ℕ) (mirror f m genus : ℕ) → AreWords gaps mirror f m genus → bits_of gaps ≡ ys → IsSemigroup 40 ys → AreSmall f m
small-of gaps ys mirror f m genus words is semigroup = small-from (bits_of gaps) f m (subst (IsSemigroup 40) (sym is) semigroup) words.greatest words.least

pub overflow_shr-sums : goal.overflow_shr-sums
overflow_shr-sums c =
    let w = c.self.inside.words in
    let member = (small-of w.gaps c.args.self w.mirror w.frobenius w.multiplicity w.genus c.self.invariant.0 c.self.view_is c.requires).member in
    omega arith

pub overflow_shl-words : goal.overflow_shl-words
overflow_shl-words c =
    let w = c.self.inside.words in
    let member = (small-of w.gaps c.args.self w.mirror w.frobenius w.multiplicity w.genus c.self.invariant.0 c.self.view_is c.requires).member in
    omega arith

pub invariant_of-t-9 : goal.invariant_of-t-9
invariant_of-t-9 c =
    let s = c.self.inside in
    let w = s.words in
    let known = c.self.invariant in
    let small = small-of w.gaps c.args.self w.mirror w.frobenius w.multiplicity w.genus known.0 c.self.view_is c.requires in
    (known.0, left-from_all (bits_of w.gaps) w.frobenius (bit_or w.window (1 * 2 ^ w.multiplicity % 2 ^ 64)) (with_candidate w.gaps w.mirror w.frobenius w.multiplicity w.genus w.window known.0 known.1 small c.if-sums-eq0.true))

pub invariant_of-result : goal.invariant_of-result
invariant_of-result c =
    let s = c.self.inside in
    let w = s.words in
    let known = c.self.invariant in
    let small = small-of w.gaps c.args.self w.mirror w.frobenius w.multiplicity w.genus known.0 c.self.view_is c.requires in
    (known.0, left-from_all (bits_of w.gaps) w.frobenius w.window (without_candidate w.gaps w.mirror w.frobenius w.multiplicity w.genus w.window known.0 known.1 small c.if-sums-eq0.false))

pub returns-then-sums-eq0 : goal.returns-then-sums-eq0
returns-then-sums-eq0 c =
    let s = c.self.inside in
    let w = s.words in
    let known = c.self.invariant in
    let small = small-of w.gaps c.args.self w.mirror w.frobenius w.multiplicity w.genus known.0 c.self.view_is c.requires in
    children-are (bits_of w.gaps) c.args.self w.frobenius (bit_or w.window (1 * 2 ^ w.multiplicity % 2 ^ 64)) c.self.view_is c.requires known.0.greatest
    (with_candidate w.gaps w.mirror w.frobenius w.multiplicity w.genus w.window known.0 known.1 small c.if-sums-eq0.true)

pub returns-else-sums-eq0 : goal.returns-else-sums-eq0
returns-else-sums-eq0 c =
    let s = c.self.inside in
    let w = s.words in
    let known = c.self.invariant in
    let small = small-of w.gaps c.args.self w.mirror w.frobenius w.multiplicity w.genus known.0 c.self.view_is c.requires in
    children-are (bits_of w.gaps) c.args.self w.frobenius w.window c.self.view_is c.requires known.0.greatest
    (without_candidate w.gaps w.mirror w.frobenius w.multiplicity w.genus w.window known.0 known.1 small c.if-sums-eq0.false)

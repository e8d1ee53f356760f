use Rattle.std.proofs.Common.{◌≡◌, ◌≢◌, ℕ, ◌+◌, ◌*◌, ◌/◌, ◌%◌, ◌^◌, ◌<◌, true, List, [], ◌∷◌, map, bit_and, div-le_self, ap, sym, subst, ◌∙◌, arith}
use Rattle.std.specs.Int.{bit_at, bit_not, trailing_zeros, w64}
use Rattle.std.specs.List.{AllByRecursion}
use Rattle.std.proofs.lemmas.Nat.{and_le_l}
use Rattle.std.proofs.lemmas.Nat.Bits.{bit_at-trailing_zeros, bit_at_clear_same, bit_at_clear_other}
use Rattle.yew_semi.specs.SemigroupTree.{without, is_generator, IsSemigroup}
use Rattle.yew_semi.specs.Words.{bits_of, window_of, AreLeft, AreGreater}
use Rattle.yew_semi.proofs.Words.{greatest-small, window_of-zero, window_of-pop, greater-after, left-after}
use Rattle.yew_semi.proofs.semigroup.Generators.take.Goals as goal

-- the lowest bit, and the window without it
abbrev lowest_of : ℕ → ℕ
lowest_of left = trailing_zeros w64 left

abbrev after_of : ℕ → ℕ
after_of left = bit_and left (bit_not w64 (1 * 2 ^ lowest_of left % 2 ^ 64))

above_zero : (n : ℕ) → n ≢ 0 → 0 < n
above_zero n other = omega arith

after-fits : (left : ℕ) → left < 2 ^ 64 → after_of left < 2 ^ 64
after-fits left fits = let most = and_le_l left (bit_not w64 (1 * 2 ^ lowest_of left % 2 ^ 64)) in omega arith

module _ (gaps : List ℕ) (f left : ℕ) (known : AreLeft gaps f left) (some : left ≢ 0) where
  low : (lowest_of left < 64) × (bit_at left (lowest_of left) ≡ 1) × ((i : ℕ) → i < lowest_of left → bit_at left i ≡ 0)
  low = bit_at-trailing_zeros w64 left (above_zero left some) known.fits

  old : (i : ℕ) → i < 64 → i ≢ lowest_of left → bit_at (after_of left) i ≡ bit_at left i
  old i below other = bit_at_clear_other w64 left (lowest_of left) low.0 i below other

  new : bit_at (after_of left) (lowest_of left) ≡ 0
  new = bit_at_clear_same w64 left (lowest_of left) low.0

  lowest-generator : (f + lowest_of left < f + 64) × (is_generator gaps (f + lowest_of left) ≡ true)
  lowest-generator = let within = low.0 in (omega arith, known.each (lowest_of left) low.1)

  lowest-greater : AreGreater gaps (f + lowest_of left) (after_of left / 2 ^ lowest_of left)
  lowest-greater =
      let most = div-le_self (after_of left) (2 ^ lowest_of left) in
      let fits = after-fits left known.fits in
      greater-after gaps f left (after_of left) (lowest_of left) known low.1 low.2 fits new old (omega arith)

  lowest-left : AreLeft gaps f (after_of left)
  lowest-left = left-after gaps f left (after_of left) (lowest_of left) known low.1 low.2 (after-fits left known.fits) new old

  lowest-pop : map (without gaps) (window_of f left) ≡ without gaps (f + lowest_of left) ∷ map (without gaps) (window_of f (after_of left))
  lowest-pop = ap (map (without gaps)) (window_of-pop f left (after_of left) (lowest_of left) low.0 low.1 new old low.2)

pub returns-then-window-eq0 : goal.returns-then-window-eq0
returns-then-window-eq0 c =
    let s = c.self.inside in
    let none : map (without (bits_of s.words.gaps)) (window_of s.words.frobenius s.words.window) ≡ [] = ap (λ w. map (without (bits_of s.words.gaps)) (window_of s.words.frobenius w)) c.if-window-eq0.true ∙ ap (map (without (bits_of s.words.gaps))) (window_of-zero s.words.frobenius) in
    (sym c.self.view_is ∙ none, sym c.self.view_is ∙ none)

pub overflow_add-generator : goal.overflow_add-generator
overflow_add-generator c =
    let s = c.self.inside in
    let within = (low (bits_of s.words.gaps) s.words.frobenius s.words.window c.self.invariant.1 c.if-window-eq0.false).0 in
    let small = greatest-small s.words.gaps s.words.frobenius c.self.invariant.0.greatest in
    omega arith

pub without-child-requires-clause-generator : goal.without-child-requires-clause-generator
without-child-requires-clause-generator c = lowest-generator (bits_of c.self.inside.words.gaps) c.self.inside.words.frobenius c.self.inside.words.window c.self.invariant.1 c.if-window-eq0.false

pub without-child-requires-clause-greater : goal.without-child-requires-clause-greater
without-child-requires-clause-greater c = lowest-greater (bits_of c.self.inside.words.gaps) c.self.inside.words.frobenius c.self.inside.words.window c.self.invariant.1 c.if-window-eq0.false

pub without-child-requires-clause-small : goal.without-child-requires-clause-small
without-child-requires-clause-small c =
    let s = c.self.inside in
    let is = sym c.self.view_is ∙ lowest-pop (bits_of s.words.gaps) s.words.frobenius s.words.window c.self.invariant.1 c.if-window-eq0.false in
    (subst (AllByRecursion (IsSemigroup 40)) is c.requires).0

pub invariant_of-self : goal.invariant_of-self
invariant_of-self c = (c.self.invariant.0, lowest-left (bits_of c.self.inside.words.gaps) c.self.inside.words.frobenius c.self.inside.words.window c.self.invariant.1 c.if-window-eq0.false)

pub returns : goal.returns
returns c =
    let s = c.self.inside in
    sym c.self.view_is ∙ lowest-pop (bits_of s.words.gaps) s.words.frobenius s.words.window c.self.invariant.1 c.if-window-eq0.false
    ∙ ap (λ n. n ∷ map (without (bits_of s.words.gaps)) (window_of s.words.frobenius (after_of s.words.window))) (sym c.without-child.ensures)

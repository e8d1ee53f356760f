-- The words of a semigroup, and its generators as bits.
use Rattle.std.proofs.Common.{◌≡◌, ◌≢◌, ℕ, zero, suc, ◌+◌, ◌-◌, ◌*◌, ◌/◌, ◌^◌, ◌<◌, ◌≤◌, min, Bool, true, false, ◌==◌, List, [], ◌∷◌, ◌++◌, filter, length, bit_and, nat_lt, inl, inr, lit<, refl, ap, sym, subst, ◌∙◌, arith}
use Rattle.std.proofs.lemmas.Bool.Decides.{nat_tests}
use Rattle.std.proofs.lemmas.List.{length_push}
use Rattle.std.proofs.lemmas.Nat.{and_mask, and_le_r}
use Rattle.std.proofs.lemmas.Nat.Bits.{bit_at_and, bit_at_not, bit_at-zero, bit_at_above, same_from_bits_below}
use Rattle.std.specs.Int.{bit_at, bit_not, w64}
use Rattle.std.specs.Int.Bits.{mask_lt}
use Rattle.std.specs.List.{range_with_len}
use Rattle.yew_laws.specs.Sets.{contains}
use Rattle.yew_semi.proofs.Bits.{bit_cases, filter-agree, filter-none, filter-longer, filter-later, filter-push, filter-pop, contains-filter, contains-after, bit_at-shifted, bit_at-low}
use Rattle.yew_semi.specs.GapLaws.{bool_same, IsMinimal, minimal-from_test, test-from_minimal, snoc-new, snoc-cases}
use Rattle.yew_semi.specs.SemigroupLaws.{Known, generator-bound}
use Rattle.yew_semi.specs.SemigroupTree.{is_generator, generators_above, without}
use Rattle.yew_semi.specs.Words.{bits_of, window_of, IsLeastMember, IsGreatestGap, AreWords, AreInherited, AreGreater, AreLeft}

pub test_cases : {P : Type 0} (b : Bool) → (b ≡ true → P) → (b ≡ false → P) → P
test_cases true f g = f refl
test_cases false f g = g refl

pub equal_is : (a b : ℕ) → (a == b) ≡ true → a ≡ b
equal_is a b e = grind (arith, nat_tests)

pub other_is : (a b : ℕ) → (a == b) ≡ false → a ≢ b
other_is a b e = grind (arith, nat_tests)

less_is : (a b : ℕ) → nat_lt a b ≡ true → a < b
less_is a b e = grind (arith, nat_tests)

least_is : (a b : ℕ) → nat_lt a b ≡ false → b ≤ a
least_is a b e = grind (arith, nat_tests)

one_test : (w x : ℕ) → bit_at w x ≡ 1 → (bit_at w x == 1) ≡ true
one_test w x e = grind (arith, nat_tests)

zero_test : (w x : ℕ) → bit_at w x ≡ 0 → (bit_at w x == 1) ≡ false
zero_test w x e = grind (arith, nat_tests)

-- no bit is set in 0
pub bits_of-zero : bits_of 0 ≡ []
unfolding bits_of
bits_of-zero = refl

pub contains-bits : (w x : ℕ) → x < 128 → contains (bits_of w) x ≡ (bit_at w x == 1)
unfolding bits_of
contains-bits w x h = contains-filter (λ y. bit_at w y == 1) 0 128 x (omega arith) (omega arith)

-- a member of the bits is a bit that is set
pub bits-inside : (w x : ℕ) → bit_at w x ≡ 1 → x < 128 → contains (bits_of w) x ≡ true
unfolding bits_of
bits-inside w x e h = contains-filter (λ y. bit_at w y == 1) 0 128 x (omega arith) (omega arith) ∙ one_test w x e

pub bits-outside : (w x : ℕ) → bit_at w x ≡ 0 → x < 128 → contains (bits_of w) x ≡ false
unfolding bits_of
bits-outside w x e h = contains-filter (λ y. bit_at w y == 1) 0 128 x (omega arith) (omega arith) ∙ zero_test w x e

pub bits-past : (w x : ℕ) → 128 ≤ x → contains (bits_of w) x ≡ false
unfolding bits_of
bits-past w x past = contains-after (λ y. bit_at w y == 1) 0 128 x past

bits-small : (w x : ℕ) → contains (bits_of w) x ≡ true → x < 128
bits-small w x inside =
    test_cases (nat_lt x 128)
    (λ e. less_is x 128 e)
    (λ e. let none = bits-past w x (least_is x 128 e) in absurd (cc))

pub greatest-small : (w f : ℕ) → IsGreatestGap (bits_of w) f → f < 128
greatest-small w zero greatest = omega arith
greatest-small w (suc f) greatest = bits-small w (suc f) (greatest.gap (omega arith))

-- one more bit above the others
pub bits_of-push : (w v g : ℕ) → g < 128 → bit_at v g ≡ 1 → ((x : ℕ) → x ≢ g → bit_at v x ≡ bit_at w x) → ((x : ℕ) → contains (bits_of w) x ≡ true → x < g) → bits_of v ≡ bits_of w ++ g ∷ []
unfolding bits_of
bits_of-push w v g within new old above =
    filter-push (λ x. bit_at w x == 1) (λ x. bit_at v x == 1) 0 128 g (omega arith) (omega arith)
    (λ x other. ap (λ b. b == 1) (sym (old x other)))
    (zero_test w g (bit_cases w g (λ e. e) (λ e. let less = above g (bits-inside w g e within) in absurd (omega arith))))
    (one_test v g new)
    (λ x more small. zero_test w x (bit_cases w x (λ e. e) (λ e. let less = above x (bits-inside w x e (omega arith)) in absurd (omega arith))))

-- the lowest number of a window taken off
pub window_of-pop : (from w v d : ℕ) → d < 64 → bit_at w d ≡ 1 → bit_at v d ≡ 0 → ((i : ℕ) → i < 64 → i ≢ d → bit_at v i ≡ bit_at w i) → ((i : ℕ) → i < d → bit_at w i ≡ 0) → window_of from w ≡ (from + d) ∷ window_of from v
unfolding window_of
window_of-pop from w v d within old new same first =
    let place : from + d - from ≡ d = omega arith in
    filter-pop (λ x. bit_at w (x - from) == 1) (λ x. bit_at v (x - from) == 1) from 64 (from + d) (omega arith) (omega arith)
    (λ x a b other. ap (λ b. b == 1) (sym (same (x - from) (omega arith) (omega arith))))
    (one_test w (from + d - from) (ap (bit_at w) place ∙ old)) (zero_test v (from + d - from) (ap (bit_at v) place ∙ new))
    (λ x a less. zero_test w (x - from) (first (x - from) (omega arith)))

pub window_of-zero : (from : ℕ) → window_of from 0 ≡ []
unfolding window_of
window_of-zero from = filter-none (λ x. bit_at 0 (x - from) == 1) from 64 (λ x a b. zero_test 0 (x - from) (bit_at-zero (x - from)))

-- a generator above the Frobenius number is above it
pub above-greatest : (gaps : List ℕ) (f g : ℕ) → IsGreatestGap gaps f → IsMinimal gaps g → f < g
above-greatest gaps zero g greatest minimal = minimal.positive
above-greatest gaps (suc f) g greatest minimal = minimal.above (suc f) (greatest.gap (omega arith))

-- all generators above the Frobenius number, as a window from it on
pub record AreAll (gaps : List ℕ) (frobenius left : ℕ) : Type 0 where
  pub fits : left < 2 ^ 64
  pub each : (i : ℕ) → bit_at left i ≡ 1 → is_generator gaps (frobenius + i) ≡ true
  pub others : (x : ℕ) → is_generator gaps x ≡ true → bit_at left (x - frobenius) ≡ 1

within_window : (left i : ℕ) → left < 2 ^ 64 → bit_at left i ≡ 1 → i < 64
within_window left i fits bit =
    test_cases (nat_lt i 64)
    (λ e. less_is i 64 e)
    (λ e. let none = bit_at_above left 64 i fits (least_is i 64 e) in absurd (omega arith))

-- the numbers of that window are the generators
pub window_of-generators : (gaps : List ℕ) (f left : ℕ) → Known gaps → IsGreatestGap gaps f → AreAll gaps f left → window_of f left ≡ generators_above gaps
unfolding window_of
window_of-generators gaps f left known greatest all =
    let n = 2 * length gaps + 2 in
    let more : f + 64 + n ≡ n + (f + 64) = omega arith in
    let start : 0 + f ≡ f = omega arith in
    filter-agree (λ x. bit_at left (x - f) == 1) (is_generator gaps) f 64
    (λ x a b. bool_same (bit_at left (x - f) == 1) (is_generator gaps x)
    (λ e. let place : f + (x - f) ≡ x = omega arith in subst (λ y. is_generator gaps y ≡ true) place (all.each (x - f) (grind (arith, nat_tests))))
    (λ e. one_test left (x - f) (all.others x e)))
    ∙ ap (λ a. filter (is_generator gaps) (range_with_len a 64)) (sym start)
    ∙ sym (filter-later (is_generator gaps) 0 f 64
    (λ x a b. bool_same (is_generator gaps x) false
    (λ e. let past = above-greatest gaps f x greatest (minimal-from_test gaps x e) in absurd (omega arith))
    (λ e. absurd (cc))))
    ∙ sym (filter-longer (is_generator gaps) 0 (f + 64) n
    (λ x past. bool_same (is_generator gaps x) false
    (λ e. let within = within_window left (x - f) all.fits (all.others x e) in absurd (omega arith))
    (λ e. absurd (cc))))
    ∙ ap (λ k. filter (is_generator gaps) (range_with_len 0 k)) more
    ∙ filter-longer (is_generator gaps) 0 n (f + 64)
    (λ x past. bool_same (is_generator gaps x) false
    (λ e. let most = generator-bound gaps x known (minimal-from_test gaps x e) in absurd (omega arith))
    (λ e. absurd (cc)))

-- a generator that is taken out is the greatest gap
pub greatest-without : (xs : List ℕ) (g : ℕ) → IsMinimal xs g → IsGreatestGap (without xs g) g
greatest-without xs g minimal = record {
  gap = λ some. snoc-new xs g;
  greatest = λ x inside. elim (snoc-cases xs g x inside) [ inl same ↦ omega arith | inr old ↦ let less = minimal.above x old in omega arith ];
}

-- the words of a semigroup without a generator
pub words-without : (gaps mirror f m genus gaps' mirror' m' g : ℕ) → AreWords gaps mirror f m genus → g < 128 → IsMinimal (bits_of gaps) g → IsLeastMember (without (bits_of gaps) g) m' →
    gaps' < 2 ^ 128 → bit_at gaps' g ≡ 1 → ((x : ℕ) → x ≢ g → bit_at gaps' x ≡ bit_at gaps x) →
    mirror' < 2 ^ 64 → bit_at mirror' 0 ≡ 0 → ((i : ℕ) → 0 < i → i < g - f → i < 64 → bit_at mirror' i ≡ 1) → ((i : ℕ) → g - f ≤ i → i < 64 → bit_at mirror' i ≡ bit_at mirror (i - (g - f))) →
    AreWords gaps' mirror' g m' (genus + 1)
words-without gaps mirror f m genus gaps' mirror' m' g words within minimal least fits new old fits' itself between moved =
    let past = above-greatest (bits_of gaps) f g words.greatest minimal in
    let is = bits_of-push gaps gaps' g within new old minimal.above in
    let longer = length_push (bits_of gaps) g in
    let count = words.count in
    let whole = ap length is in
    record {
      gaps_fit = fits;
      mirror_fits = fits';
      zero_inside = old 0 (omega arith) ∙ words.zero_inside;
      mirrored = λ i small below.
          test_cases (i == 0)
          (λ e. let first : i ≡ 0 = equal_is i 0 e in
          let here : g - i ≡ g = omega arith in
          ap (bit_at mirror') first ∙ itself ∙ sym (ap (λ n. 1 - n) (ap (bit_at gaps') here ∙ new)))
          (λ e. let other : i ≢ 0 = other_is i 0 e in
          let same = old (g - i) (omega arith) in
          test_cases (nat_lt i (g - f))
          (λ e'. let less : i < g - f = less_is i (g - f) e' in
          let one = between i (omega arith) less small in
          bit_cases gaps (g - i)
          (λ none. omega arith)
          (λ one'. let most = words.greatest.greatest (g - i) (bits-inside gaps (g - i) one' (omega arith)) in absurd (omega arith)))
          (λ e'. let more : g - f ≤ i = least_is i (g - f) e' in
          let place : f - (i - (g - f)) ≡ g - i = omega arith in
          moved i more small ∙ words.mirrored (i - (g - f)) (omega arith) (omega arith) ∙ ap (λ n. 1 - n) (ap (bit_at gaps) place ∙ sym same)));
      mirror_ends = λ i most.
          test_cases (nat_lt i 64)
          (λ e. moved i (omega arith) (less_is i 64 e) ∙ words.mirror_ends (i - (g - f)) (omega arith))
          (λ e. bit_at_above mirror' 64 i fits' (least_is i 64 e));
      greatest = subst (λ ys. IsGreatestGap ys g) (sym is) (greatest-without (bits_of gaps) g minimal);
      least = subst (λ ys. IsLeastMember ys m') (sym is) least;
      count = omega arith;
    }

-- a member from 1 up is at least the least
pub least-member : (xs : List ℕ) (m : ℕ) → IsLeastMember xs m → (h : ℕ) → 0 < h → contains xs h ≡ false → m ≤ h
least-member xs m least h from member =
    test_cases (nat_lt h m)
    (λ e. let inside = least.least h from (less_is h m e) in absurd (cc))
    (λ e. least_is h m e)

-- which sums of two members make the number that is m above the Frobenius number, as bits: bit i of m + i and F - i
abbrev pub sums_of : ℕ → ℕ → ℕ → ℕ
sums_of gaps mirror m = bit_and (bit_not w64 (bit_and gaps 18446744073709551615) / 2 ^ m) mirror

-- the members below 64
abbrev members_of : ℕ → ℕ
members_of gaps = bit_not w64 (bit_and gaps 18446744073709551615)

low-fits : (gaps : ℕ) → bit_and gaps 18446744073709551615 < 2 ^ 64
low-fits gaps = mask_lt gaps 64

members-bit : (gaps x : ℕ) → x < 64 → bit_at (members_of gaps) x ≡ 1 - bit_at gaps x
members-bit gaps x small =
    bit_at_not w64 (bit_and gaps 18446744073709551615) x (low-fits gaps) small
    ∙ ap (λ n. 1 - n) (ap (λ n. bit_at n x) (and_mask gaps 64) ∙ bit_at-low gaps 64 x small)

members-end : (gaps x : ℕ) → 64 ≤ x → bit_at (members_of gaps) x ≡ 0
members-end gaps x past = let low = low-fits gaps in bit_at_above (members_of gaps) 64 x (omega arith) past

sums-bit : (gaps mirror m i : ℕ) → bit_at (sums_of gaps mirror m) i ≡ min (bit_at (members_of gaps) (m + i)) (bit_at mirror i)
sums-bit gaps mirror m i = bit_at_and (members_of gaps / 2 ^ m) mirror i ∙ ap (λ n. min n (bit_at mirror i)) (bit_at-shifted (members_of gaps) m i)

module _ (gaps mirror f m genus : ℕ) (words : AreWords gaps mirror f m genus) (small : f + m < 128) where
  outside-bit : (a : ℕ) → a < 128 → contains (bits_of gaps) a ≡ false → bit_at gaps a ≡ 0
  outside-bit a within e = bit_cases gaps a (λ n. n) (λ n. let inside = bits-inside gaps a n within in absurd (cc))

  -- the lesser of two members whose sum it is
  no-lesser : sums_of gaps mirror m ≡ 0 → (a b : ℕ) → 0 < a → 0 < b → a + b ≡ f + m → a < 64 → contains (bits_of gaps) a ≡ false → contains (bits_of gaps) b ≡ false → ⊥
  no-lesser none a b from from' sum low one other =
      let least = least-member (bits_of gaps) m words.least a from one in
      let i = a - m in
      let place : m + i ≡ a = omega arith in
      let place' : f - i ≡ b = omega arith in
      let bit = sums-bit gaps mirror m i in
      let zero_bit = ap (λ w. bit_at w i) none ∙ bit_at-zero i in
      let first = ap (bit_at (members_of gaps)) place ∙ members-bit gaps a low in
      let first_bit = outside-bit a (omega arith) one in
      let second = words.mirrored i (omega arith) (omega arith) ∙ ap (λ x. 1 - bit_at gaps x) place' in
      let second_bit = outside-bit b (omega arith) other in
      omega arith

  pub minimal-from_sums : sums_of gaps mirror m ≡ 0 → IsMinimal (bits_of gaps) (f + m)
  minimal-from_sums none =
      let positive = words.least.positive in
      record {
        positive = omega arith;
        above = λ x inside. let most = words.greatest.greatest x inside in omega arith;
        no_sum = λ a from below one other.
            test_cases (nat_lt a 64)
            (λ e. no-lesser none a (f + m - a) from (omega arith) (omega arith) (less_is a 64 e) one other)
            (λ e. let past = least_is a 64 e in no-lesser none (f + m - a) a (omega arith) from (omega arith) (omega arith) other one);
      }

  pub sums-from_minimal : IsMinimal (bits_of gaps) (f + m) → sums_of gaps mirror m ≡ 0
  sums-from_minimal minimal =
      let positive = words.least.positive in
      let most = and_le_r (members_of gaps / 2 ^ m) mirror in
      let mirror_fits = words.mirror_fits in
      same_from_bits_below 64 (sums_of gaps mirror m) 0 (omega arith) (lit< tt)
      (λ i within.
      let bit = sums-bit gaps mirror m i in
      let zero_bit = bit_at-zero i in
      test_cases (nat_lt i f)
      (λ e. let below : i < f = less_is i f e in
      let mirror_bit = words.mirrored i within below in
      let place : f + m - (m + i) ≡ f - i = omega arith in
      test_cases (nat_lt (m + i) 64)
      (λ e'. let low : m + i < 64 = less_is (m + i) 64 e' in
      let member_bit = members-bit gaps (m + i) low in
      bit_cases gaps (m + i)
      (λ n. bit_cases gaps (f - i)
      (λ n'. absurd (minimal.no_sum (m + i) (omega arith) (omega arith) (bits-outside gaps (m + i) n (omega arith)) (ap (contains (bits_of gaps)) place ∙ bits-outside gaps (f - i) n' (omega arith))))
      (λ n'. omega arith))
      (λ n. omega arith))
      (λ e'. let member_bit = members-end gaps (m + i) (least_is (m + i) 64 e') in omega arith))
      (λ e. let mirror_bit = words.mirror_ends i (least_is i f e) in omega arith))

pub left-from_all : (gaps : List ℕ) (f left : ℕ) → AreAll gaps f left → AreLeft gaps f left
left-from_all gaps f left all = record { fits = all.fits; each = all.each; greater = λ i x bit most test. all.others x test }

-- the candidate is a generator
pub all-with : (gaps : List ℕ) (f m inherited left : ℕ) → IsGreatestGap gaps f → AreInherited gaps f m inherited → IsMinimal gaps (f + m) → left < 2 ^ 64 → bit_at left m ≡ 1 → ((i : ℕ) → i ≢ m → bit_at left i ≡ bit_at inherited i) → AreAll gaps f left
all-with gaps f m inherited left greatest given minimal fits new old = record {
  fits = fits;
  each = λ i bit.
      test_cases (i == m)
      (λ e. let same : f + m ≡ f + i = ap (λ n. f + n) (sym (equal_is i m e)) in subst (λ y. is_generator gaps y ≡ true) same (test-from_minimal gaps (f + m) minimal))
      (λ e. given.each i (sym (old i (other_is i m e)) ∙ bit));
  others = λ x test.
      let past = above-greatest gaps f x greatest (minimal-from_test gaps x test) in
      test_cases (x == f + m)
      (λ e. let same = equal_is x (f + m) e in let place : x - f ≡ m = omega arith in ap (bit_at left) place ∙ new)
      (λ e. let other = other_is x (f + m) e in old (x - f) (omega arith) ∙ given.others x other test);
}

-- and where it is none
pub all-without : (gaps : List ℕ) (f m inherited : ℕ) → AreInherited gaps f m inherited → (IsMinimal gaps (f + m) → ⊥) → AreAll gaps f inherited
all-without gaps f m inherited given fails = record {
  fits = given.fits;
  each = given.each;
  others = λ x test.
      test_cases (x == f + m)
      (λ e. absurd (fails (minimal-from_test gaps (f + m) (subst (λ y. is_generator gaps y ≡ true) (equal_is x (f + m) e) test))))
      (λ e. given.others x (other_is x (f + m) e) test);
}

-- the lowest of the generators that are left, and those after it
module _ (gaps : List ℕ) (f left after d : ℕ) (known : AreLeft gaps f left) (set : bit_at left d ≡ 1) (lowest : (i : ℕ) → i < d → bit_at left i ≡ 0) (fits : after < 2 ^ 64) (new : bit_at after d ≡ 0) (old : (i : ℕ) → i < 64 → i ≢ d → bit_at after i ≡ bit_at left i) where
  after-bit : (i : ℕ) → bit_at after i ≡ 1 → (bit_at left i ≡ 1) × (d < i)
  after-bit i bit =
      let small = within_window after i fits bit in
      test_cases (i == d)
      (λ e. let cleared = ap (bit_at after) (equal_is i d e) ∙ new in absurd (omega arith))
      (λ e.
      let other = other_is i d e in
      let there = sym (old i small other) ∙ bit in
      test_cases (nat_lt i d)
      (λ n. let none = lowest i (less_is i d n) in absurd (omega arith))
      (λ n. let past = least_is i d n in (there, omega arith)))

  kept-after : (x : ℕ) → f + d < x → is_generator gaps x ≡ true → bit_at after (x - f) ≡ 1
  kept-after x less test =
      let bit = known.greater d x set (omega arith) test in
      old (x - f) (within_window left (x - f) known.fits bit) (omega arith) ∙ bit

  pub greater-after : after / 2 ^ d < 2 ^ 64 → AreGreater gaps (f + d) (after / 2 ^ d)
  greater-after fits' = record {
    fits = fits';
    each = λ i bit.
        let there = after-bit (d + i) (sym (bit_at-shifted after d i) ∙ bit) in
        let past = there.1 in
        let place : f + (d + i) ≡ f + d + i = omega arith in
        (omega arith, subst (λ y. is_generator gaps y ≡ true) place (known.each (d + i) there.0));
    others = λ x less test.
        let place : d + (x - (f + d)) ≡ x - f = omega arith in
        bit_at-shifted after d (x - (f + d)) ∙ ap (bit_at after) place ∙ kept-after x less test;
  }

  pub left-after : AreLeft gaps f after
  left-after = record {
    fits = fits;
    each = λ i bit. known.each i (after-bit i bit).0;
    greater = λ i x bit most test. let past = (after-bit i bit).1 in kept-after x (omega arith) test;
  }

-- Which generators a semigroup has from its parent.
use Rattle.std.proofs.Common.{◌≡◌, ◌≢◌, ℕ, zero, suc, ◌+◌, ◌-◌, ◌*◌, ◌^◌, ◌<◌, ◌≤◌, true, false, not, ◌&&◌, ◌==◌, nat_lt, List, length, inl, inr, refl, ap, sym, subst, ◌∙◌, arith}
use Rattle.std.proofs.lemmas.Bool.Decides.{nat_tests}
use Rattle.std.specs.Int.{bit_at}
use Rattle.std.specs.List.{list_all}
use Rattle.yew_laws.specs.Sets.{contains}
use Rattle.yew_semi.proofs.Words.{test_cases, equal_is, other_is, least-member, greatest-without}
use Rattle.yew_semi.specs.GapBound.{gap-bound, members-all, members_to-length}
use Rattle.yew_semi.specs.GapLaws.{both_first, both_second, both, not_is, not_from, all-from, any-passes, IsMinimal, minimal-from_test, test-from_minimal, snoc-old, snoc-new, snoc-kept, snoc-cases, snoc-outside}
use Rattle.yew_semi.specs.SemigroupLaws.{known-from}
use Rattle.yew_semi.specs.SemigroupTree.{is_sum_of_members, is_generator, without, IsSemigroup}
use Rattle.yew_semi.specs.Words.{IsLeastMember, IsGreatestGap, AreInherited, AreGreater}

module _ (xs : List ℕ) (g : ℕ) (minimal : IsMinimal xs g) where
  -- a greater generator stays one
  pub minimal-kept : (x : ℕ) → g < x → IsMinimal xs x → IsMinimal (without xs g) x
  minimal-kept x less known = record {
    positive = known.positive;
    above = λ y inside. elim (snoc-cases xs g y inside) [ inl same ↦ omega arith | inr old ↦ known.above y old ];
    no_sum = λ a from below one other. known.no_sum a from below (snoc-outside xs g a one).1 (snoc-outside xs g (x - a) other).1;
  }

  -- numbers above the one taken out are members
  above-member : (x : ℕ) → g < x → contains (without xs g) x ≡ false
  above-member x less =
      snoc-kept xs g x (omega arith)
      ∙ elim (contains xs x) as (λ b. contains xs x ≡ b → b ≡ false)
      [ true ↦ λ e. let small = minimal.above x e in absurd (omega arith) | false ↦ λ e. refl ]
      refl

  -- a new generator is the sum of the one taken out and a member
  pub record IsNew (x : ℕ) : Type 0 where
    pub other : ℕ
    pub positive : 0 < other
    pub member : contains xs other ≡ false
    pub sum : x ≡ g + other

  new-sum : (x : ℕ) → IsMinimal (without xs g) x → is_generator xs x ≡ false → IsNew x
  new-sum x known fails =
      let less = known.above g (snoc-new xs g) in
      let all = all-from (λ y. nat_lt y x) xs (λ y inside. let below = known.above y (snoc-old xs g y inside) in grind (arith, nat_tests)) in
      let positive : nat_lt 0 x ≡ true = grind (arith, nat_tests) in
      let first = both (nat_lt 0 x) (list_all (λ y. nat_lt y x) xs) positive all in
      elim (is_sum_of_members xs x) as (λ b. is_sum_of_members xs x ≡ b → IsNew x) [
        | false ↦ λ e.
            let passes = both (nat_lt 0 x && list_all (λ y. nat_lt y x) xs) (not (is_sum_of_members xs x)) first (not_from (is_sum_of_members xs x) e) in
            absurd (cc)
        | true ↦ λ e.
            let some = any-passes (λ a. not (contains xs a) && not (contains xs (x - a))) 1 (x - 1) e in
            let one = not_is (contains xs some.at) (both_first (not (contains xs some.at)) (not (contains xs (x - some.at))) some.is) in
            let other = not_is (contains xs (x - some.at)) (both_second (not (contains xs some.at)) (not (contains xs (x - some.at))) some.is) in
            let from = some.from in
            let below = some.below in
            elim (some.at == g) as (λ b. (some.at == g) ≡ b → IsNew x) [
              | true ↦ λ f.
                  let same : some.at ≡ g = grind (arith, nat_tests) in
                  record { other = x - some.at; positive = omega arith; member = other; sum = omega arith }
              | false ↦ λ f.
                  let not_g : some.at ≢ g = grind (arith, nat_tests) in
                  elim (x - some.at == g) as (λ b. (x - some.at == g) ≡ b → IsNew x) [
                    | true ↦ λ f'.
                        let same : x - some.at ≡ g = grind (arith, nat_tests) in
                        record { other = some.at; positive = omega arith; member = one; sum = omega arith }
                    | false ↦ λ f'.
                        let not_g' : x - some.at ≢ g = grind (arith, nat_tests) in
                        absurd (known.no_sum some.at (omega arith) (omega arith) (snoc-kept xs g some.at not_g ∙ one) (snoc-kept xs g (x - some.at) not_g' ∙ other))
                  ]
                  refl
            ]
            refl
      ]
      refl

  module _ (m : ℕ) (least : IsLeastMember xs m) where
    -- where the least member stays, a new generator is the sum with it
    pub new-least : g ≢ m → (x : ℕ) → IsMinimal (without xs g) x → is_generator xs x ≡ false → x ≡ g + m
    new-least other x known fails =
        let new = new-sum x known fails in
        let sum = new.sum in
        let more = least-member xs m least new.other new.positive new.member in
        let positive = least.positive in
        elim (nat_lt m new.other) as (λ b. nat_lt m new.other ≡ b → x ≡ g + m) [
          | true ↦ λ e.
              let less : m < new.other = grind (arith, nat_tests) in
              let not_m : m ≢ g = λ same. other (sym same) in
              absurd (known.no_sum m positive (omega arith) (snoc-kept xs g m not_m ∙ least.member) (above-member (x - m) (omega arith)))
          | false ↦ λ e. let not_less : new.other ≤ m = grind (arith, nat_tests) in omega arith
        ]
        refl

    -- where it is taken out, the members are all numbers above it, and the new generators are twice it and that plus 1
    pub new-ordinary : g ≡ m → (x : ℕ) → IsMinimal (without xs g) x → is_generator xs x ≡ false → x ≢ g + (g + 1) → x ≡ 2 * g
    new-ordinary same x known fails other =
        let new = new-sum x known fails in
        let sum = new.sum in
        let more = least-member xs m least new.other new.positive new.member in
        elim (nat_lt (g + 1) new.other) as (λ b. nat_lt (g + 1) new.other ≡ b → x ≡ 2 * g) [
          | true ↦ λ e.
              let less : g + 1 < new.other = grind (arith, nat_tests) in
              absurd (known.no_sum (g + 1) (omega arith) (omega arith) (above-member (g + 1) (omega arith)) (above-member (x - (g + 1)) (omega arith)))
          | false ↦ λ e. let not_less : new.other ≤ g + 1 = grind (arith, nat_tests) in omega arith
        ]
        refl

    pub twice-minimal : g ≡ m → IsMinimal (without xs g) (2 * g)
    twice-minimal same =
        let positive = minimal.positive in
        let below : (a : ℕ) → 0 < a → a ≤ g → contains (without xs g) a ≡ true =
        λ a from most.
        elim (a == g) as (λ b. (a == g) ≡ b → contains (without xs g) a ≡ true) [
          | true ↦ λ e. let it : a ≡ g = grind (arith, nat_tests) in ap (contains (without xs g)) it ∙ snoc-new xs g
          | false ↦ λ e. let it : a ≢ g = grind (arith, nat_tests) in snoc-old xs g a (least.least a from (omega arith))
        ]
        refl
        in
        record {
          positive = omega arith;
          above = λ y inside. elim (snoc-cases xs g y inside) [ inl it ↦ omega arith | inr old ↦ let less = minimal.above y old in omega arith ];
          no_sum = λ a from most one other.
              elim (nat_lt g a) as (λ b. nat_lt g a ≡ b → ⊥) [
                | true ↦ λ e. let less : g < a = grind (arith, nat_tests) in let inside = below (2 * g - a) (omega arith) (omega arith) in absurd (cc)
                | false ↦ λ e. let less : a ≤ g = grind (arith, nat_tests) in let inside = below a from less in absurd (cc)
              ]
              refl;
        }

    -- the least member of the semigroup without the generator
    pub least-kept : g ≢ m → IsLeastMember (without xs g) m
    least-kept other = record {
      positive = least.positive;
      member = let not_m : m ≢ g = λ same. other (sym same) in snoc-kept xs g m not_m ∙ least.member;
      least = λ x from below. snoc-old xs g x (least.least x from below);
    }

    pub least-next : g ≡ m → IsLeastMember (without xs g) (g + 1)
    least-next same = record {
      positive = omega arith;
      member = above-member (g + 1) (omega arith);
      least = λ x from below.
          elim (x == g) as (λ b. (x == g) ≡ b → contains (without xs g) x ≡ true) [
            | true ↦ λ e. let it : x ≡ g = grind (arith, nat_tests) in ap (contains (without xs g)) it ∙ snoc-new xs g
            | false ↦ λ e. let it : x ≢ g = grind (arith, nat_tests) in snoc-old xs g x (least.least x from (omega arith))
          ]
          refl;
    }

-- the least member is at most one more than the number of gaps
pub least-bound : (xs : List ℕ) (m : ℕ) → IsLeastMember xs m → m ≤ length xs + 1
least-bound xs zero least = omega arith
least-bound xs (suc n) least =
    let all = members-all xs n (λ x from below. least.least x from (omega arith)) in
    let most = members_to-length xs n in
    omega arith

-- what a semigroup of at most 40 gaps has: its Frobenius number and its least member
pub record AreSmall (frobenius multiplicity : ℕ) : Type 0 where
  pub gap : frobenius < 80
  pub member : multiplicity ≤ 41

pub small-from : (xs : List ℕ) (f m : ℕ) → IsSemigroup 40 xs → IsGreatestGap xs f → IsLeastMember xs m → AreSmall f m
small-from xs zero m semigroup greatest least =
    let few = semigroup.few in
    let member = least-bound xs m least in
    record { gap = omega arith; member = omega arith }
small-from xs (suc f) m semigroup greatest least =
    let most = gap-bound xs (known-from semigroup).closed (suc f) (greatest.gap (omega arith)) in
    let few = semigroup.few in
    let member = least-bound xs m least in
    record { gap = omega arith; member = omega arith }

-- of a semigroup without a generator
pub small-without : (xs : List ℕ) (g m : ℕ) → IsSemigroup 40 (without xs g) → IsMinimal xs g → IsLeastMember (without xs g) m → AreSmall g m
small-without xs g m semigroup minimal least = small-from (without xs g) g m semigroup (greatest-without xs g minimal) least

-- what is inherited where the least member stays
pub inherited-kept : (xs : List ℕ) (g m greater : ℕ) → IsMinimal xs g → IsLeastMember xs m → g ≢ m → AreGreater xs g greater → AreInherited (without xs g) g m greater
inherited-kept xs g m greater minimal least other given = record {
  fits = given.fits;
  each = λ i bit. let known = given.each i bit in let some = known.0 in test-from_minimal (without xs g) (g + i) (minimal-kept xs g minimal (g + i) (omega arith) (minimal-from_test xs (g + i) known.1));
  others = λ x away test.
      let known = minimal-from_test (without xs g) x test in
      test_cases (is_generator xs x)
      (λ e. given.others x (known.above g (snoc-new xs g)) e)
      (λ e. absurd (away (new-least xs g minimal m least other x known e)));
}

-- and where it is taken out
pub inherited-next : (xs : List ℕ) (g m greater window : ℕ) → IsMinimal xs g → IsLeastMember xs m → g ≡ m → AreGreater xs g greater →
    window < 2 ^ 64 → bit_at window g ≡ 1 → ((i : ℕ) → i ≢ g → bit_at window i ≡ bit_at greater i) → AreInherited (without xs g) g (g + 1) window
inherited-next xs g m greater window minimal least same given fits new old = record {
  fits = fits;
  each = λ i bit.
      test_cases (i == g)
      (λ e. let it : i ≡ g = equal_is i g e in
      let twice : 2 * g ≡ g + i = omega arith in
      subst (λ y. is_generator (without xs g) y ≡ true) twice (test-from_minimal (without xs g) (2 * g) (twice-minimal xs g minimal m least same)))
      (λ e. let known = given.each i (sym (old i (other_is i g e)) ∙ bit) in
      let some = known.0 in
      test-from_minimal (without xs g) (g + i) (minimal-kept xs g minimal (g + i) (omega arith) (minimal-from_test xs (g + i) known.1)));
  others = λ x away test.
      let known = minimal-from_test (without xs g) x test in
      let past = known.above g (snoc-new xs g) in
      test_cases (x == 2 * g)
      (λ e. let it = equal_is x (2 * g) e in let place : x - g ≡ g = omega arith in ap (bit_at window) place ∙ new)
      (λ e. let it = other_is x (2 * g) e in
      test_cases (is_generator xs x)
      (λ n. old (x - g) (omega arith) ∙ given.others x past n)
      (λ n. absurd (it (new-ordinary xs g minimal m least same x known n away))));
}

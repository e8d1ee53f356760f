-- A semigroup without a minimal generator above the Frobenius number is a semigroup, and each semigroup is made so from one other.
use Rattle.std.proofs.Common.{◌≡◌, ℕ, zero, suc, ◌+◌, ◌-◌, ◌*◌, ◌<◌, ◌≤◌, ◌^◌, Bool, true, false, cond, nat_lt, if◌then◌else◌, List, [], ◌∷◌, map, filter, length, refl, subst, ◌∙◌, ◌⊎◌, inl, inr, arith}
use Rattle.std.proofs.lemmas.Bool.Decides.{nat_tests}
use Rattle.std.proofs.lemmas.List.{length_push, length-map}
use Rattle.std.proofs.lemmas.List.FromFn.{length-range_with_len}
use Rattle.std.specs.List.{AllByRecursion, range_with_len}
use Rattle.yew_laws.specs.Sets.{contains}
use Rattle.yew_laws.specs.Tree.{IsRanked, IsBounded}
use Rattle.yew_semi.specs.GapBound.{gap-bound}
use Rattle.yew_semi.specs.GapLaws.{IsClosed, closed-from_test, test-from_closed, IsMinimal, minimal-from_test, snoc-old, snoc-new, snoc-kept, snoc-cases, snoc-outside}
use Rattle.yew_semi.specs.SemigroupTree.{is_generator, generators_above, without, children_of, rank_of, IsSemigroup}
use Rattle.yew_semi.specs.SetLaws.{rises_from, rises-from_set, set-from_rises, rises-below, snoc-rises, rises-snoc}

zero_or : (a : ℕ) → (a ≡ 0) ⊎ (0 < a)
zero_or zero = inl refl
zero_or (suc a) = inr (omega arith)

-- without the generator the members are still closed under sums
pub closed-without : (xs : List ℕ) (g : ℕ) → IsClosed xs → IsMinimal xs g → IsClosed (without xs g)
closed-without xs g closed minimal = record {
  no_sum = λ x a inside within one other.
      let first = snoc-outside xs g a one in
      let second = snoc-outside xs g (x - a) other in
      let not_g = first.0 in
      let not_g' = second.0 in
      elim (snoc-cases xs g x inside) [
        | inl same ↦
            let e : contains xs (g - a) ≡ false = subst (λ y. contains xs (y - a) ≡ false) same second.1 in
            minimal.no_sum a (elim (zero_or a) [ inl none ↦ absurd (omega arith) | inr some ↦ some ]) (omega arith) first.1 e
        | inr old ↦ closed.no_sum x a old within first.1 second.1
      ];
}

-- and the greatest gap of a semigroup is a minimal generator once it is put back
pub minimal-last : (xs : List ℕ) (g : ℕ) → IsClosed (without xs g) → ((x : ℕ) → contains xs x ≡ true → x < g) → 0 < g → IsMinimal xs g
minimal-last xs g closed above positive = record {
  positive = positive;
  above = above;
  no_sum = λ a from below one other.
      closed.no_sum g a (snoc-new xs g) (omega arith) (snoc-kept xs g a (omega arith) ∙ one) (snoc-kept xs g (g - a) (omega arith) ∙ other);
}

pub closed-front : (xs : List ℕ) (g : ℕ) → IsClosed (without xs g) → ((x : ℕ) → contains xs x ≡ true → x < g) → IsClosed xs
closed-front xs g closed above = record {
  no_sum = λ x a inside within one other.
      let less = above x inside in
      closed.no_sum x a (snoc-old xs g x inside) within (snoc-kept xs g a (omega arith) ∙ one) (snoc-kept xs g (x - a) (omega arith) ∙ other);
}

-- a set of gaps has no number above 2k - 1
pub within-bound : (low high : ℕ) (xs : List ℕ) → IsClosed xs → rises_from low high xs ≡ true → rises_from low (2 * length xs - 1) xs ≡ true
within-bound low high xs closed e = rises-below low high (2 * length xs - 1) xs (λ x inside. let most = gap-bound xs closed x inside in omega arith) e

-- what a semigroup is
pub record Known (gaps : List ℕ) : Type 0 where
  pub closed : IsClosed gaps
  pub rises : rises_from 1 (2 * length gaps - 1) gaps ≡ true

pub known-from : {genus : ℕ} {gaps : List ℕ} → IsSemigroup genus gaps → Known gaps
known-from {genus} {gaps} semigroup = record { closed = closed-from_test gaps semigroup.closed; rises = rises-from_set 1 (2 * length gaps - 1) gaps semigroup.rising }

pub semigroup-from : (genus : ℕ) (gaps : List ℕ) → Known gaps → length gaps ≤ genus → IsSemigroup genus gaps
semigroup-from genus gaps known few = record { closed = test-from_closed gaps known.closed; rising = set-from_rises 1 (2 * length gaps - 1) gaps known.rises; few = few }

pub known-without : (gaps : List ℕ) (g : ℕ) → Known gaps → IsMinimal gaps g → Known (without gaps g)
known-without gaps g known minimal =
    let closed = closed-without gaps g known.closed minimal in
    let high = g + 2 * length gaps in
    let longer = rises-below 1 (2 * length gaps - 1) high gaps (λ x inside. let less = minimal.above x inside in omega arith) known.rises in
    record { closed = closed; rises = within-bound 1 high (without gaps g) closed (rises-snoc 1 high gaps g longer minimal.above minimal.positive (omega arith)) }

pub known-front : (gaps : List ℕ) (g : ℕ) → Known (without gaps g) → Known gaps × IsMinimal gaps g
known-front gaps g known =
    let parts = snoc-rises 1 (2 * length (without gaps g) - 1) gaps g known.rises in
    let closed = closed-front gaps g known.closed parts.above in (
      record { closed = closed; rises = within-bound 1 (2 * length (without gaps g) - 1) gaps closed parts.front },
      minimal-last gaps g known.closed parts.above parts.from,
    )

-- a minimal generator above the Frobenius number is at most 2k + 1
pub generator-bound : (gaps : List ℕ) (g : ℕ) → Known gaps → IsMinimal gaps g → g ≤ 2 * length gaps + 1
generator-bound gaps g known minimal =
    let next = known-without gaps g known minimal in
    let most = gap-bound (without gaps g) next.closed g (snoc-new gaps g) in
    let longer = length_push gaps g in
    omega arith

pub known-root : Known []
known-root = record { closed = record { no_sum = λ x a inside within one other. absurd (cc) }; rises = refl }

-- what holds of each number that passes holds of each filtered one
filtered : (p : ℕ → Bool) (P : ℕ → Type 0) → ((x : ℕ) → p x ≡ true → P x) → (xs : List ℕ) → AllByRecursion P (filter p xs)
filtered p P h [] = tt
filtered p P h (x ∷ xs) =
    elim (p x) as (λ b. p x ≡ b → AllByRecursion P (cond b (x ∷ filter p xs) (filter p xs)))
    [ true ↦ λ e. (h x e, filtered p P h xs) | false ↦ λ e. filtered p P h xs ]
    refl

mapped : (P : List ℕ → Type 0) (Q : ℕ → Type 0) (f : ℕ → List ℕ) → ((x : ℕ) → Q x → P (f x)) → (xs : List ℕ) → AllByRecursion Q xs → AllByRecursion P (map f xs)
mapped P Q f h [] a = tt
mapped P Q f h (x ∷ xs) a = (h x a.0, mapped P Q f h xs a.1)

-- what holds of each semigroup without a generator holds of each child
pub children-all : (genus : ℕ) (P : List ℕ → Type 0) (gaps : List ℕ) → ((g : ℕ) → length gaps < genus → IsMinimal gaps g → P (without gaps g)) → AllByRecursion P (children_of genus gaps)
children-all genus P gaps h =
    elim (nat_lt (length gaps) genus) as (λ b. nat_lt (length gaps) genus ≡ b → AllByRecursion P (if b then map (without gaps) (generators_above gaps) else [])) [
      | true ↦ λ e.
          let few : length gaps < genus = grind (arith, nat_tests) in
          mapped P (IsMinimal gaps) (without gaps) (λ g minimal. h g few minimal) (generators_above gaps)
          (filtered (is_generator gaps) (IsMinimal gaps) (λ g e'. minimal-from_test gaps g e') (range_with_len 0 (2 * length gaps + 2)))
      | false ↦ λ e. tt
    ]
    refl

pub semigroups-ranked : (genus : ℕ) → IsRanked (IsSemigroup genus) (children_of genus) (rank_of genus)
semigroups-ranked genus = record {
  stays_sound = λ gaps s.
      children-all genus (IsSemigroup genus) gaps
      (λ g few minimal. let longer = length_push gaps g in semigroup-from genus (without gaps g) (known-without gaps g (known-from s) minimal) (omega arith));
  rank_falls = λ gaps s.
      children-all genus (λ c. rank_of genus c < rank_of genus gaps) gaps
      (λ g few minimal. let longer = length_push gaps g in omega arith);
}

pub semigroups-bounded : (genus : ℕ) → IsBounded (IsSemigroup genus) (children_of genus) (λ _. 0) (λ _. 1)
semigroups-bounded genus = record { bounds = λ n m path s e. omega arith; fits = λ n s. omega arith }

length-filter : (p : ℕ → Bool) (xs : List ℕ) → length (filter p xs) ≤ length xs
length-filter p [] = omega arith
length-filter p (x ∷ xs) =
    let rest = length-filter p xs in
    elim (p x) as (λ b. length (cond b (x ∷ filter p xs) (filter p xs)) ≤ suc (length xs)) [ true ↦ omega arith | false ↦ omega arith ]

pub semigroups-countable : (genus : ℕ) → genus ≤ 40 → (gaps : List ℕ) → IsSemigroup genus gaps → length (children_of genus gaps) + 1 < 2 ^ 32
semigroups-countable genus small gaps s =
    let few = s.few in
    let most = length-filter (is_generator gaps) (range_with_len 0 (2 * length gaps + 2)) in
    let range = length-range_with_len 0 (2 * length gaps + 2) in
    let mapped_len = length-map (generators_above gaps) (without gaps) in
    elim (nat_lt (length gaps) genus) as (λ b. length (if b then map (without gaps) (generators_above gaps) else []) + 1 < 2 ^ 32) [ true ↦ omega arith | false ↦ omega arith ]

pub few-levels : (genus : ℕ) → genus ≤ 40 → rank_of genus [] ≤ 65535
few-levels genus few = omega arith

-- What is known while a set of joined cities takes in the nearest of the others.
use Rattle.std.specs.Prelude.{◌≡◌, ◌≢◌, ℕ, ◌<◌, ◌≤◌, Bool, true, false, not, ◌&&◌, ◌||◌, ◌==◌, List, [], ◌∷◌, length, map, filter, min, nat_lt, if◌then◌else◌, refl}
use Rattle.std.specs.List.{AllByRecursion}
use Rattle.std.proofs.Common.{suc, cond, ap, sym, subst, ◌∙◌, arith, inl, inr, ◌⊎◌}
use Rattle.std.proofs.lemmas.Bool.{cases_eq, cases_lt, true≢false}
use Rattle.std.proofs.lemmas.Bool.Decides.{nat_tests}
use Rattle.yew_laws.specs.Sets.{contains}
use Rattle.yew_laws.proofs.Members.{AllByRecursion-map, AllByRecursion-weaker}
use Rattle.yew_span.specs.declared.growing.Outside.{Outside}
use Rattle.yew_span.specs.Growth.{nearer, nearest, is_left, updated, left_over}
use Rattle.yew_tsp.specs.Instance.{Instance, weight_between}
use Rattle.yew_tsp.specs.Lists.{filter-all}

-- the cities that are not joined yet
abbrev pub outside : List Outside → List ℕ
outside others = map (λ (other : Outside). other.city) others

-- ---- the nearest

nearer-has : (P : Outside → Type 0) (best other : Outside) → P best → P other → P (nearer best other)
nearer-has P best other a b = elim (nat_lt other.near best.near) as (λ t. P (if t then other else best)) [ true ↦ b | false ↦ a ]

nearer-least : (best other : Outside) → ((nearer best other).near ≤ best.near) × ((nearer best other).near ≤ other.near)
nearer-least best other =
    elim (nat_lt other.near best.near) as (λ t. nat_lt other.near best.near ≡ t → (((if t then other else best).near ≤ best.near) × ((if t then other else best).near ≤ other.near))) [
      | true ↦ λ e. (below other.near best.near e, omega arith)
      | false ↦ λ e. (omega arith, above other.near best.near e)
    ]
    refl
  where
    below : (a b : ℕ) → nat_lt a b ≡ true → a ≤ b
    below a b e = grind (arith, nat_tests)

    above : (a b : ℕ) → nat_lt a b ≡ false → b ≤ a
    above a b e = grind (arith, nat_tests)

-- what holds of all holds of the nearest
pub nearest-has : (P : Outside → Type 0) (best : Outside) (others : List Outside) → P best → AllByRecursion P others → P (nearest best others)
nearest-has P best [] a b = a
nearest-has P best (other ∷ others) a b = nearest-has P (nearer best other) others (nearer-has P best other a b.0) b.1

nearest-first : (best : Outside) (others : List Outside) → (nearest best others).near ≤ best.near
nearest-first best [] = omega arith
nearest-first best (other ∷ others) =
    let more = nearest-first (nearer best other) others in let one = (nearer-least best other).0 in omega (arith, more, one)

-- none is nearer
pub nearest-least : (best : Outside) (others : List Outside) → AllByRecursion (λ other. (nearest best others).near ≤ other.near) (best ∷ others)
nearest-least best others = (nearest-first best others, rest best others)
  where
    rest : (b : Outside) (os : List Outside) → AllByRecursion (λ other. (nearest b os).near ≤ other.near) os
    rest b [] = tt
    rest b (other ∷ os) = (
      let more = nearest-first (nearer b other) os in let one = (nearer-least b other).1 in omega (arith, more, one),
      rest (nearer b other) os,
    )

-- ---- members

-- what holds of all holds of one with this city
pub record IsThere (P : Outside → Type 0) (city : ℕ) : Type 0 where
  pub other : Outside
  pub city_is : other.city ≡ city
  pub holds : P other

pub outside-there : (P : Outside → Type 0) (others : List Outside) (city : ℕ) → contains (outside others) city ≡ true → AllByRecursion P others → IsThere P city
outside-there P [] city h a = absurd (true≢false (sym h))
outside-there P (other ∷ others) city h a =
    elim (cases_eq other.city city) [
      | inl same ↦ record { other = other; city_is = same; holds = a.0 }
      | inr apart ↦ outside-there P others city (skips other.city city (contains (outside others) city) apart h) a.1
    ]
  where
    skips : (x c : ℕ) (b : Bool) → x ≢ c → (x == c || b) ≡ true → b ≡ true
    skips x c b n e = grind (arith, nat_tests)

pub outside-head : (x c : ℕ) (b : Bool) → x ≡ c → (x == c || b) ≡ true
outside-head x c b e = grind (arith, nat_tests)

pub outside-tail : (x c : ℕ) (b : Bool) → b ≡ true → (x == c || b) ≡ true
outside-tail x c b e = grind (arith, nat_tests)

-- each city outside is there
pub outside-all : (others : List Outside) → AllByRecursion (λ (other : Outside). contains (outside others) other.city ≡ true) others
outside-all [] = tt
outside-all (other ∷ others) = (
  outside-head other.city other.city (contains (outside others) other.city) refl,
  AllByRecursion-weaker (λ (o : Outside). contains (outside others) o.city ≡ true) (λ (o : Outside). contains (outside (other ∷ others)) o.city ≡ true)
      (λ o h. outside-tail other.city o.city (contains (outside others) o.city) h) others (outside-all others),
)

module _ (instance : Instance) (taken : Outside) where
  -- the cities that are left outside
  pub left-contains : (others : List Outside) (city : ℕ) → contains (outside (left_over instance taken others)) city ≡ (contains (outside others) city && not (city == taken.city))
  left-contains [] city = refl
  left-contains (other ∷ others) city =
      let more = left-contains others city in
      elim (other.city == taken.city) as (λ b. (other.city == taken.city) ≡ b → contains (outside (map (updated instance taken) (cond (not b) (other ∷ filter (is_left taken) others) (filter (is_left taken) others)))) city ≡ (contains (outside (other ∷ others)) city && not (city == taken.city))) [
        | true ↦ λ e. more ∙ gone other.city (contains (outside others) city) e
        | false ↦ λ e. ap (λ b. other.city == city || b) more ∙ stays other.city (contains (outside others) city) e
      ]
      refl
    where
      gone : (x : ℕ) (b : Bool) → (x == taken.city) ≡ true → (b && not (city == taken.city)) ≡ ((x == city || b) && not (city == taken.city))
      gone x b e = grind (arith, nat_tests)

      stays : (x : ℕ) (b : Bool) → (x == taken.city) ≡ false → (x == city || (b && not (city == taken.city))) ≡ ((x == city || b) && not (city == taken.city))
      stays x b e = grind (arith, nat_tests)

  left-length : (others : List Outside) → length (left_over instance taken others) ≤ length others
  left-length [] = omega arith
  left-length (other ∷ others) =
      let more = left-length others in
      elim (is_left taken other) as (λ b. length (map (updated instance taken) (cond b (other ∷ filter (is_left taken) others) (filter (is_left taken) others))) ≤ suc (length others)) [
        | true ↦ omega (arith, more)
        | false ↦ omega (arith, more)
      ]

  -- fewer are left
  pub left-fewer : (others : List Outside) → contains (outside others) taken.city ≡ true → length (left_over instance taken others) < length others
  left-fewer [] h = absurd (true≢false (sym h))
  left-fewer (other ∷ others) h =
      elim (other.city == taken.city) as (λ b. (other.city == taken.city) ≡ b → length (map (updated instance taken) (cond (not b) (other ∷ filter (is_left taken) others) (filter (is_left taken) others))) < suc (length others)) [
        | true ↦ λ e. let most = left-length others in omega (arith, most)
        | false ↦ λ e. let more = left-fewer others (stays other.city (contains (outside others) taken.city) e h) in omega (arith, more)
      ]
      refl
    where
      stays : (x : ℕ) (b : Bool) → (x == taken.city) ≡ false → (x == taken.city || b) ≡ true → b ≡ true
      stays x b e k = grind (arith, nat_tests)

-- ---- stages

-- the least weight from a joined city to one outside, and a joined city from which it is that
pub record IsNear (instance : Instance) (joined : List ℕ) (other : Outside) : Type 0 where
  pub least : (c : ℕ) → contains joined c ≡ true → other.near ≤ weight_between instance c other.city
  pub from : ℕ
  pub from_joined : contains joined from ≡ true
  pub is : other.near ≡ weight_between instance from other.city

-- the cities are those that are joined and those outside
pub record IsStage (instance : Instance) (cities joined : List ℕ) (others : List Outside) : Type 0 where
  pub near : AllByRecursion (IsNear instance joined) others
  pub covers : (c : ℕ) → contains cities c ≡ true → (contains joined c ≡ true) ⊎ (contains (outside others) c ≡ true)
  pub joined_in : (c : ℕ) → contains joined c ≡ true → contains cities c ≡ true
  pub others_in : (c : ℕ) → contains (outside others) c ≡ true → contains cities c ≡ true
  pub apart : (c : ℕ) → contains joined c ≡ true → contains (outside others) c ≡ true → ⊥

pub one-of : (x c : ℕ) (b : Bool) → (x == c || b) ≡ true → (x ≡ c) ⊎ (b ≡ true)
one-of x c b e =
    elim (cases_eq x c) [
      | inl same ↦ inl same
      | inr other ↦ inr (skips other e)
    ]
  where
    skips : x ≢ c → (x == c || b) ≡ true → b ≡ true
    skips n h = grind (arith, nat_tests)

module _ (instance : Instance) (cities joined : List ℕ) where
  near-updated : (taken other : Outside) → IsNear instance joined other → IsNear instance (taken.city ∷ joined) (updated instance taken other)
  near-updated taken other near =
      elim (cases_lt (weight_between instance taken.city other.city) other.near) [
        | inl less ↦ record {
          least = bound;
          from = taken.city;
          from_joined = outside-head taken.city taken.city (contains joined taken.city) refl;
          is = omega (arith, less);
        }
        | inr most ↦ record {
          least = bound;
          from = near.from;
          from_joined = outside-tail taken.city near.from (contains joined near.from) near.from_joined;
          is = let own = near.is in omega (arith, most, own);
        }
      ]
    where
      bound : (c : ℕ) → contains (taken.city ∷ joined) c ≡ true → min other.near (weight_between instance taken.city other.city) ≤ weight_between instance c other.city
      bound c h =
          elim (one-of taken.city c (contains joined c) h) [
            | inl same ↦ let e = ap (λ x. weight_between instance x other.city) same in omega (arith, e)
            | inr there ↦ let l = near.least c there in omega (arith, l)
          ]

  -- the stage where the nearest city is taken in
  pub stage-more : (first : Outside) (others : List Outside) → IsStage instance cities joined (first ∷ others)
      → IsStage instance cities ((nearest first others).city ∷ joined) (left_over instance (nearest first others) (first ∷ others))
  stage-more first others stage = record {
    near =
        AllByRecursion-map (IsNear instance ((nearest first others).city ∷ joined)) (updated instance (nearest first others)) (filter (is_left (nearest first others)) (first ∷ others))
        (AllByRecursion-weaker (IsNear instance joined) (λ o. IsNear instance ((nearest first others).city ∷ joined) (updated instance (nearest first others) o)) (near-updated (nearest first others))
        (filter (is_left (nearest first others)) (first ∷ others)) (filter-all (IsNear instance joined) (is_left (nearest first others)) (first ∷ others) stage.near));
    covers = λ c h.
        elim (stage.covers c h) [
          | inl there ↦ inl (outside-tail (nearest first others).city c (contains joined c) there)
          | inr there ↦
              elim (cases_eq (nearest first others).city c) [
                | inl same ↦ inl (outside-head (nearest first others).city c (contains joined c) same)
                | inr other ↦ inr (left-contains instance (nearest first others) (first ∷ others) c ∙ both (contains (outside (first ∷ others)) c) c there other)
              ]
        ];
    joined_in = λ c h.
        elim (one-of (nearest first others).city c (contains joined c) h) [
          | inl same ↦ subst (λ x. contains cities x ≡ true) same (stage.others_in (nearest first others).city taken-there)
          | inr there ↦ stage.joined_in c there
        ];
    others_in = λ c h. stage.others_in c (front (contains (outside (first ∷ others)) c) (not (c == (nearest first others).city)) (sym (left-contains instance (nearest first others) (first ∷ others) c) ∙ h));
    apart = λ c h k.
        let inside = sym (left-contains instance (nearest first others) (first ∷ others) c) ∙ k in
        elim (one-of (nearest first others).city c (contains joined c) h) [
          | inl same ↦ never (contains (outside (first ∷ others)) c) c same inside
          | inr there ↦ stage.apart c there (front (contains (outside (first ∷ others)) c) (not (c == (nearest first others).city)) inside)
        ];
  }
    where
      taken-there : contains (outside (first ∷ others)) (nearest first others).city ≡ true
      taken-there =
          let all = outside-all (first ∷ others) in
          nearest-has (λ (o : Outside). contains (outside (first ∷ others)) o.city ≡ true) first others all.0 all.1

      both : (b : Bool) (c : ℕ) → b ≡ true → (nearest first others).city ≢ c → (b && not (c == (nearest first others).city)) ≡ true
      both b c e n = grind (arith, nat_tests)

      front : (b d : Bool) → (b && d) ≡ true → b ≡ true
      front b d e = grind (arith, nat_tests)

      never : (b : Bool) (c : ℕ) → (nearest first others).city ≡ c → (b && not (c == (nearest first others).city)) ≡ true → ⊥
      never b c same e = grind (arith, nat_tests)

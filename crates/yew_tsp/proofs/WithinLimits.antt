-- The instance of a file none of whose numbers is past its limit.
use Rattle.std.proofs.Common.{◌≡◌, ℕ, zero, suc, ◌+◌, ◌-◌, ◌*◌, ◌<◌, ◌≤◌, ◌^◌, Bool, true, false, cond, ◌&&◌, ◌==◌, List, [], ◌∷◌, ◌++◌, length, map, get_or, Option, Some, None, refl, ap, subst, ◌∙◌, arith, inl, inr}
use Rattle.std.specs.Prelude.{flat_map, zip, unwrap_or}
use Rattle.std.specs.List.{AllByRecursion, range_with_len}
use Rattle.std.proofs.lemmas.Bool.{cases_Bool, cases_eq, ltb-false}
use Rattle.std.proofs.lemmas.List.{length-append, length-map, get_or_append_left, get_or-append-add}
use Rattle.std.proofs.lemmas.List.FromFn.{get_or-map-range_with_len}
use Rattle.yew_laws.proofs.Members.{AllByRecursion-append, AllByRecursion-map}
use Rattle.yew_text.specs.Grammar.{Limited, is_past, first_past}
use Rattle.yew_tsp.specs.declared.header.Key.TheVariants.{Dimension}
use Rattle.yew_tsp.specs.Files.{Contents, HasContents, instance_of, number_limits, contents_limits}
use Rattle.yew_tsp.specs.Instance.{IsWithinLimits, weight_between}
use Rattle.yew_tsp.specs.Lists.{length-range, range-all}
use Rattle.yew_tsp.specs.Matrices.{places, number_at, weight_from}
use Rattle.yew_tsp.proofs.HeaderParts.{given_accepted}

-- ---- limits

pub record NotPast (x : Limited) (xs : List Limited) : Type 0 where
  pub own : x.number ≤ x.limit
  pub rest : first_past xs ≡ None

pub none-parts : (x : Limited) (xs : List Limited) → first_past (x ∷ xs) ≡ None → NotPast x xs
none-parts x xs e =
    elim (cases_Bool (is_past x)) [
      | inl past ↦ absurd (let f : cond true (Some x) (first_past xs) ≡ None = subst (λ (b : Bool). cond b (Some x) (first_past xs) ≡ None) past e in cc)
      | inr within ↦ record { own = ltb-false x.limit x.number within; rest = subst (λ (b : Bool). cond b (Some x) (first_past xs) ≡ None) within e }
    ]

numbers-small : (numbers : List ℕ) → first_past (number_limits numbers) ≡ None → AllByRecursion (λ n. n < 2 ^ 31) numbers
numbers-small [] e = tt
numbers-small (n ∷ numbers) e =
    let p = none-parts (record { number = n; limit = 2147483647 }) (number_limits numbers) e in
    let own = p.own in
    (omega (arith, own), numbers-small numbers p.rest)

-- ---- weights

small_or : (o : Option ℕ) (d : ℕ) → unwrap_or o 0 < 2 ^ 31 → d < 2 ^ 31 → unwrap_or o d < 2 ^ 31
small_or None d l m = m
small_or (Some n) d l m = l

number_at-small : (ps : List (ℕ × ℕ)) (ns : List ℕ) (i j : ℕ) → AllByRecursion (λ n. n < 2 ^ 31) ns → unwrap_or (number_at (zip ps ns) i j) 0 < 2 ^ 31
number_at-small [] ns i j a = omega arith
number_at-small (p ∷ ps) [] i j a = omega arith
number_at-small (p ∷ ps) (n ∷ ns) i j a =
    elim (p.0 == i && p.1 == j) as (λ b. unwrap_or (cond b (Some n) (number_at (zip ps ns) i j)) 0 < 2 ^ 31) [
      | true ↦ a.0
      | false ↦ number_at-small ps ns i j a.1
    ]

weight_from-small : (ps : List (ℕ × ℕ)) (ns : List ℕ) (i j : ℕ) → AllByRecursion (λ n. n < 2 ^ 31) ns → weight_from (zip ps ns) i j < 2 ^ 31
weight_from-small ps ns i j a =
    elim (i == j) as (λ b. cond b 0 (unwrap_or (number_at (zip ps ns) i j) (unwrap_or (number_at (zip ps ns) j i) 0)) < 2 ^ 31) [
      | true ↦ omega arith
      | false ↦ small_or (number_at (zip ps ns) i j) (unwrap_or (number_at (zip ps ns) j i) 0) (number_at-small ps ns i j a) (number_at-small ps ns j i a)
    ]

module _ (f : ℕ → ℕ → ℕ) (n : ℕ) where
  abbrev row : ℕ → List ℕ
  row i = map (f i) (range_with_len 1 n)

  length-row : (i : ℕ) → length (row i) ≡ n
  length-row i = length-map (range_with_len 1 n) (f i) ∙ length-range 1 n

  rows-all : (P : ℕ → Type 0) → ((i j : ℕ) → P (f i j)) → (is : List ℕ) → AllByRecursion P (flat_map row is)
  rows-all P h [] = tt
  rows-all P h (i ∷ is) = AllByRecursion-append P (row i) (flat_map row is) (AllByRecursion-map P (f i) (range_with_len 1 n) (range-all (λ j. P (f i j)) 1 n (λ j l m. h i j))) (rows-all P h is)

  length-rows : (is : List ℕ) → length (flat_map row is) ≡ length is * n
  length-rows [] = omega arith
  length-rows (i ∷ is) = let rest = length-rows is in let one = length-row i in let both = length-append (row i) (flat_map row is) in omega (arith, rest, one, both)

  -- the weight at a place of the rows
  rows-get : (a k i j : ℕ) → a ≤ i → i < a + k → j < n → get_or (flat_map row (range_with_len a k)) ((i - a) * n + j) 0 ≡ f i (1 + j)
  rows-get a zero i j l m t = absurd (omega arith)
  rows-get a (suc k) i j l m t =
      elim (cases_eq a i) [
        | inl same ↦
            let here : (i - a) * n + j ≡ j = ap (λ z. z * n + j) (gone i same) ∙ nothing in
            ap (λ p. get_or (row a ++ flat_map row (range_with_len (a + 1) k)) p 0) here
            ∙ get_or_append_left (row a) (flat_map row (range_with_len (a + 1) k)) 0 j (let long = length-row a in omega (arith, long, t))
            ∙ get_or-map-range_with_len (f a) 1 n j (1 + j) 0 t refl
            ∙ ap (λ r. f r (1 + j)) same
        | inr other ↦
            let long = length-row a in
            let later : (i - a) * n + j ≡ length (row a) + ((i - (a + 1)) * n + j) = ap (λ z. z * n + j) (step i (omega arith)) ∙ more (i - (a + 1)) long in
            ap (λ p. get_or (row a ++ flat_map row (range_with_len (a + 1) k)) p 0) later
            ∙ get_or-append-add (row a) (flat_map row (range_with_len (a + 1) k)) ((i - (a + 1)) * n + j) 0
            ∙ rows-get (a + 1) k i j (omega arith) (omega arith) t
      ]
    where
      gone : (r : ℕ) → a ≡ r → r - a ≡ 0
      gone r e = omega arith

      nothing : 0 * n + j ≡ j
      nothing = omega arith

      step : (r : ℕ) → a < r → r - a ≡ suc (r - (a + 1))
      step r x = omega arith

      more : (z : ℕ) → length (row a) ≡ n → suc z * n + j ≡ length (row a) + (z * n + j)
      more z e = omega (arith, e)

-- the weight of an instance between two cities is that of the file's places
pub weights-are : (contents : Contents) (i j : ℕ) → 1 ≤ i → i ≤ contents.cities → 1 ≤ j → j ≤ contents.cities → weight_between (instance_of contents) i j ≡ weight_from (zip (places contents.format contents.cities) contents.numbers) i j
weights-are contents i j a b d e =
    let number : 1 + (j - 1) ≡ j = omega arith in
    rows-get (weight_from (zip (places contents.format contents.cities) contents.numbers)) contents.cities 1 contents.cities i (j - 1) a (omega arith) (omega arith)
    ∙ ap (weight_from (zip (places contents.format contents.cities) contents.numbers) i) number

-- ---- files

-- a file has several cities
pub several : (bytes : List ℕ) (contents : Contents) → HasContents bytes contents → 2 ≤ contents.cities
several bytes contents h =
    let accepted = given_accepted [] h.header.given Dimension h.has_header.entries h.has_header.is_section.has_required.1.0 in
    let cities = h.says.cities_are in
    omega (arith, cities, accepted.1)

pub within : (bytes : List ℕ) (contents : Contents) → HasContents bytes contents → first_past (contents_limits contents) ≡ None → IsWithinLimits (instance_of contents)
within bytes contents h none =
    let n = contents.cities in
    let weight = weight_from (zip (places contents.format n) contents.numbers) in
    let p = none-parts (record { number = n; limit = 60 }) (number_limits contents.numbers) none in
    record {
      several = several bytes contents h;
      few = p.own;
      square = let long = length-rows weight n (range_with_len 1 n) in let count = ap (λ k. k * n) (length-range 1 n) in long ∙ count;
      small = rows-all weight n (λ w. w < 2 ^ 31) (λ i j. weight_from-small (places contents.format n) contents.numbers i j (numbers-small contents.numbers p.rest)) (range_with_len 1 n);
    }

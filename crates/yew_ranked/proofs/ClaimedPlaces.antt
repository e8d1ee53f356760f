-- Where all workers found no task left, the places that they walked are all places of the list of tasks, each once.
use Rattle.std.proofs.Common.{◌≡◌, ℕ, zero, suc, ◌+◌, ◌<◌, ◌≤◌, List, [], ◌∷◌, ◌++◌, map, length, Some, None, Option, ◌==◌, nat_lt, if◌then◌else◌, refl, ap, sym, ◌∙◌, Bool, true, false, cond, ◌&&◌, arith}
use Rattle.std.specs.Prelude.{slice_get}
use Rattle.std.specs.List.{AllByRecursion, Contains, sum_by, flat_map}
use Rattle.std.proofs.lemmas.Bool.Decides.{nat_tests}
use Rattle.std.proofs.lemmas.List.Concat.{flat_map-append}
use Rattle.std.proofs.lemmas.List.Sums.{sum_by-append, sum_by-cons}
use Rattle.yew_laws.specs.Bag.{SameBag}
use Rattle.yew_laws.proofs.Bags.{sum_by-map, same-occurs}
use Rattle.yew_laws.proofs.Members.{AllByRecursion-map, AllByRecursion-weaker}
use Rattle.yew_laws.specs.Order.{occurs, only}
use Rattle.yew_ranked.specs.ClaimSeats.{times, AreBelow}

-- all places of a list, in order
abbrev pub places_of : {X : Type 0} → List X → List ℕ
places_of [] = []
places_of (x ∷ xs) = 0 ∷ map suc (places_of xs)

-- what a list has at a place, weighed
abbrev pub weight_at : {X : Type 0} → (X → ℕ) → Option X → ℕ
weight_at weight None = 0
weight_at weight (Some x) = weight x

-- the members at all places are the list
places-weigh : {X : Type 0} (weight : X → ℕ) (xs : List X) → sum_by (λ p. weight_at weight (slice_get xs p)) (places_of xs) ≡ sum_by weight xs
places-weigh weight [] = refl
places-weigh weight (x ∷ xs) =
    let shifted = sum_by-map (λ p. weight_at weight (slice_get (x ∷ xs) p)) suc (places_of xs) in
    let rest = places-weigh weight xs in
    let a = sum_by-cons (λ p. weight_at weight (slice_get (x ∷ xs) p)) 0 (map suc (places_of xs)) in
    let b = sum_by-cons weight x xs in
    omega arith

-- 1 where two numbers are one, and 0 else
abbrev is_at : ℕ → ℕ → ℕ
is_at x y = if y == x then 1 else 0

-- 1 below a number, and 0 else
abbrev pub is_below : ℕ → ℕ → ℕ
is_below n x = if nat_lt x n then 1 else 0

times-shifted : (x : ℕ) (ps : List ℕ) → times (suc x) (map suc ps) ≡ times x ps
times-shifted x [] = refl
times-shifted x (p ∷ ps) =
    let rest = times-shifted x ps in
    let a = sum_by-cons (is_at (suc x)) (suc p) (map suc ps) in
    let b = sum_by-cons (is_at x) p ps in
    let c = same p x in omega arith
  where
    same : (p x : ℕ) → is_at (suc x) (suc p) ≡ is_at x p
    same p x = grind (arith, nat_tests)

times-zero : (ps : List ℕ) → times 0 (map suc ps) ≡ 0
times-zero [] = refl
times-zero (p ∷ ps) =
    let rest = times-zero ps in
    let a = sum_by-cons (is_at 0) (suc p) (map suc ps) in
    let c = other p in omega arith
  where
    other : (p : ℕ) → is_at 0 (suc p) ≡ 0
    other p = grind (arith, nat_tests)

-- each place occurs once
places-once : {X : Type 0} (xs : List X) (x : ℕ) → times x (places_of xs) ≡ is_below (length xs) x
places-once [] x = none x
  where
    none : (x : ℕ) → 0 ≡ is_below 0 x
    none x = grind (arith, nat_tests)
places-once (y ∷ ys) zero =
    let a = sum_by-cons (is_at 0) 0 (map suc (places_of ys)) in
    let rest = times-zero (places_of ys) in
    let c = here (length ys) in omega arith
  where
    here : (n : ℕ) → is_below (suc n) 0 ≡ 1
    here n = grind (arith, nat_tests)
places-once (y ∷ ys) (suc x) =
    let a = sum_by-cons (is_at (suc x)) 0 (map suc (places_of ys)) in
    let rest = times-shifted x (places_of ys) in
    let more = places-once ys x in
    let z = other x in
    let c = next x (length ys) in omega arith
  where
    other : (x : ℕ) → is_at (suc x) 0 ≡ 0
    other x = grind (arith, nat_tests)

    next : (x n : ℕ) → is_below (suc n) (suc x) ≡ is_below n x
    next x n = grind (arith, nat_tests)

abbrev one_if : Bool → ℕ
one_if b = cond b 1 0

-- a number as a path of one
abbrev single : ℕ → List ℕ
single x = x ∷ []

abbrev first_number : List ℕ → ℕ
first_number [] = 0
first_number (x ∷ xs) = x

occurs-empty : (xs : List ℕ) → occurs [] (map single xs) ≡ 0
occurs-empty [] = refl
occurs-empty (x ∷ xs) = let rest = occurs-empty xs in let a = sum_by-cons (only []) (single x) (map single xs) in omega arith

occurs-single : (k : ℕ) (xs : List ℕ) → occurs (k ∷ []) (map single xs) ≡ times k xs
occurs-single k [] = refl
occurs-single k (x ∷ xs) =
    let rest = occurs-single k xs in
    let a = sum_by-cons (only (k ∷ [])) (single x) (map single xs) in
    let b = sum_by-cons (is_at k) x xs in
    let c = same k x in omega arith
  where
    same : (k x : ℕ) → only (k ∷ []) (single x) ≡ is_at k x
    same k x = grind (arith, nat_tests)

occurs-longer : (j k : ℕ) (p : List ℕ) (xs : List ℕ) → occurs (j ∷ k ∷ p) (map single xs) ≡ 0
occurs-longer j k p [] = refl
occurs-longer j k p (x ∷ xs) =
    let rest = occurs-longer j k p xs in
    let a = sum_by-cons (only (j ∷ k ∷ p)) (single x) (map single xs) in
    let c = other (j == x) in omega arith
  where
    other : (b : Bool) → one_if (b && false) ≡ 0
    other true = refl
    other false = refl

-- numbers that occur equally often are one bag
pub same-times : (xs ys : List ℕ) → ((x : ℕ) → times x xs ≡ times x ys) → SameBag xs ys
same-times xs ys each = record {
  weighs = λ weight.
      let a = sum_by-map (λ (p : List ℕ). weight (first_number p)) single xs in
      let b = sum_by-map (λ (p : List ℕ). weight (first_number p)) single ys in
      let c = singles.weighs (λ (p : List ℕ). weight (first_number p)) in omega arith;
}
  where
    by : (path : List ℕ) → occurs path (map single xs) ≡ occurs path (map single ys)
    by [] = occurs-empty xs ∙ sym (occurs-empty ys)
    by (k ∷ []) = occurs-single k xs ∙ (each k ∙ sym (occurs-single k ys))
    by (j ∷ k ∷ p) = occurs-longer j k p xs ∙ sym (occurs-longer j k p ys)

    singles : SameBag (map single xs) (map single ys)
    singles = same-occurs (map single xs) (map single ys) by

-- no number of a list is one that all its members are not
pub times-none : (x : ℕ) (xs : List ℕ) → AllByRecursion (λ y. y ≡ x → ⊥) xs → times x xs ≡ 0
times-none x [] a = refl
times-none x (y ∷ ys) a = let rest = times-none x ys a.1 in let s = sum_by-cons (is_at x) y ys in let c = other y a.0 in omega arith
  where
    other : (y : ℕ) → (y ≡ x → ⊥) → is_at x y ≡ 0
    other y n = grind (arith, nat_tests)

pub times-append : (x : ℕ) (xs ys : List ℕ) → times x (xs ++ ys) ≡ times x xs + times x ys
times-append x xs ys = sum_by-append (is_at x) xs ys

times-itself : (x : ℕ) → times x (x ∷ []) ≡ 1
times-itself x = let s = sum_by-cons (is_at x) x [] in let c = here x in omega arith
  where
    here : (x : ℕ) → is_at x x ≡ 1
    here x = grind (arith, nat_tests)

-- a member occurs
pub times-contains : (x : ℕ) (xs : List ℕ) → Contains xs x → 0 < times x xs
times-contains x [] c = absurd (omega (arith, c.1))
times-contains x (y ∷ ys) (zero, less, e) = let s = sum_by-cons (is_at x) y ys in let h = here y e in omega arith
  where
    here : (y : ℕ) → y ≡ x → is_at x y ≡ 1
    here y e = grind (arith, nat_tests)
times-contains x (y ∷ ys) (suc k, less, e) = let s = sum_by-cons (is_at x) y ys in let rest = times-contains x ys (k, omega arith, e) in omega arith

module _ {W : Type 0} (places : W → List ℕ) where
  -- no place was walked twice
  abbrev pub PlacesOnce : List W → Type 0
  PlacesOnce ws = (x : ℕ) → times x (flat_map places ws) ≤ 1

  pub once-rest : (w : W) (ws : List W) → PlacesOnce (w ∷ ws) → PlacesOnce ws
  once-rest w ws once x = let a = times-append x (places w) (flat_map places ws) in let o = once x in omega arith

  -- a place of one worker is none of another's
  pub once-between : (before : List W) (w : W) (after : List W) → PlacesOnce (before ++ w ∷ after) → (x : ℕ) → Contains (places w) x → Contains (flat_map places (before ++ after)) x → ⊥
  once-between before w after once x here there =
      let a = ap (times x) (flat_map-append places before (w ∷ after)) in
      let b = times-append x (flat_map places before) (places w ++ flat_map places after) in
      let c = times-append x (places w) (flat_map places after) in
      let d = ap (times x) (flat_map-append places before after) in
      let e = times-append x (flat_map places before) (flat_map places after) in
      let f = times-contains x (places w) here in
      let g = times-contains x (flat_map places (before ++ after)) there in
      let o = once x in absurd (omega arith)

module _ {W : Type 0} (places : W → List ℕ) (last : W → ℕ) where
  -- what one worker claimed: the places that it walked, and one more
  abbrev pub claimed : W → List ℕ
  claimed w = places w ++ last w ∷ []

  -- the worker walked places of the list, and its last claim is past them
  pub record IsPast (n : ℕ) (w : W) : Type 0 where
    pub past : n ≤ last w
    pub walked : AllByRecursion (λ p. p < n) (places w)

  apart : (x : ℕ) (ws : List W) → times x (flat_map claimed ws) ≡ times x (flat_map places ws) + times x (map last ws)
  apart x [] = refl
  apart x (w ∷ ws) =
      let a = times-append x (places w ++ last w ∷ []) (flat_map claimed ws) in
      let b = times-append x (places w) (last w ∷ []) in
      let c = times-append x (places w) (flat_map places ws) in
      let d = times-append x (last w ∷ []) (map last ws) in
      let rest = apart x ws in omega arith

  lasts-past : (n x : ℕ) (ws : List W) → AllByRecursion (IsPast n) ws → x < n → times x (map last ws) ≡ 0
  lasts-past n x ws a less = times-none x (map last ws) (AllByRecursion-map (λ y. y ≡ x → ⊥) last ws (AllByRecursion-weaker (IsPast n) (λ w. last w ≡ x → ⊥) (λ w p e. let q = p.past in omega arith) ws a))

  places-below : (n x : ℕ) (ws : List W) → AllByRecursion (IsPast n) ws → n ≤ x → times x (flat_map places ws) ≡ 0
  places-below n x [] a le = refl
  places-below n x (w ∷ ws) a le =
      let c = times-append x (places w) (flat_map places ws) in
      let here = times-none x (places w) (AllByRecursion-weaker (λ p. p < n) (λ p. p ≡ x → ⊥) (λ p less e. omega arith) (places w) a.0.walked) in
      let rest = places-below n x ws a.1 le in omega arith

  -- each place of the list was walked once
  pub walked-once : (n count : ℕ) (w : W) (ws : List W) → AllByRecursion (IsPast n) (w ∷ ws) → AreBelow count (flat_map claimed (w ∷ ws)) → (x : ℕ) → times x (flat_map places (w ∷ ws)) ≡ is_below n x
  walked-once n count w ws a below x = by (nat_lt x n) refl
    where
      many : last w < count
      many =
          let a = apart (last w) (w ∷ ws) in let b = below.once (last w) in
          let c = times-append (last w) (last w ∷ []) (map last ws) in let d = times-itself (last w) in
          let e = low (last w) in omega arith
        where
          low : (y : ℕ) → (0 < is_below count y → y < count)
          low y h = grind (arith, nat_tests)

      by : (b : Bool) → nat_lt x n ≡ b → times x (flat_map places (w ∷ ws)) ≡ is_below n x
      by true e =
          let less = under x n e in
          let p = apart x (w ∷ ws) in let b = below.once x in let l = lasts-past n x (w ∷ ws) a less in
          let q = a.0.past in let m = many in
          let one = yes x count (omega arith) in let one' = yes x n less in omega arith
        where
          under : (x n : ℕ) → nat_lt x n ≡ true → x < n
          under x n e = grind (arith, nat_tests)

          yes : (x n : ℕ) → x < n → is_below n x ≡ 1
          yes x n l = grind (arith, nat_tests)
      by false e = places-below n x (w ∷ ws) a (over x n e) ∙ sym (no x n (over x n e))
        where
          over : (x n : ℕ) → nat_lt x n ≡ false → n ≤ x
          over x n e = grind (arith, nat_tests)

          no : (x n : ℕ) → n ≤ x → is_below n x ≡ 0
          no x n l = grind (arith, nat_tests)

  -- so the members at the places that were walked are the whole list
  pub members-once : {X : Type 0} (xs : List X) (count : ℕ) (w : W) (ws : List W) → AllByRecursion (IsPast (length xs)) (w ∷ ws) → AreBelow count (flat_map claimed (w ∷ ws))
      → (weight : X → ℕ) → sum_by (λ p. weight_at weight (slice_get xs p)) (flat_map places (w ∷ ws)) ≡ sum_by weight xs
  members-once xs count w ws a below weight =
      let same = same-times (flat_map places (w ∷ ws)) (places_of xs) (λ x. walked-once (length xs) count w ws a below x ∙ sym (places-once xs x)) in
      same.weighs (λ p. weight_at weight (slice_get xs p)) ∙ places-weigh weight xs

  -- no place was walked twice
  pub walked-no_twice : (n count : ℕ) (w : W) (ws : List W) → AllByRecursion (IsPast n) (w ∷ ws) → AreBelow count (flat_map claimed (w ∷ ws)) → PlacesOnce places (w ∷ ws)
  walked-no_twice n count w ws a below x = let o = walked-once n count w ws a below x in let l = low (nat_lt x n) in omega (arith, o, l)
    where
      low : (b : Bool) → (if b then 1 else 0) ≤ 1
      low true = omega arith
      low false = omega arith

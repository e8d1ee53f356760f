-- The cities outside as they stand in an array, while one of them is taken in.
use Rattle.std.proofs.Common.{◌≡◌, ◌≢◌, ℕ, zero, suc, ◌+◌, ◌-◌, ◌*◌, ◌<◌, ◌≤◌, Bool, true, false, cond, not, ◌&&◌, ◌||◌, ◌==◌, List, [], ◌∷◌, ◌++◌, length, take, drop, map, filter, get_or, set, refl, ap, ap₂, sym, subst, ◌∙◌, arith}
use Rattle.std.specs.List.{AllByRecursion}
use Rattle.std.proofs.lemmas.Bool.{and_parts}
use Rattle.std.proofs.lemmas.Bool.Decides.{nat_tests}
use Rattle.std.proofs.lemmas.Grind.{drop_more_same}
use Rattle.std.proofs.lemmas.List.{length-take-le, take_more, take_more_set, drop-set-lt, length-set, drop_more}
use Rattle.yew_laws.specs.Sets.{contains, are_different, are_within}
use Rattle.yew_laws.proofs.Members.{AllByRecursion-map, AllByRecursion-weaker}
use Rattle.yew_span.specs.declared.growing.Outside.{Outside}
use Rattle.yew_span.specs.Growth.{nearest, is_left, updated, left_over, beside, grown, span}
use Rattle.yew_span.specs.Outsides.{IsNearest, IsAllowed, AreAllowed}
use Rattle.yew_span.specs.Stages.{outside, nearest-has, outside-all, left-fewer}
use Rattle.yew_tsp.specs.BoundLaws.{weight-small}
use Rattle.yew_tsp.specs.Instance.{Instance, IsWithinLimits}
use Rattle.yew_tsp.specs.Lists.{is_other, filter-all, filter-append, length-without, within-parts}

-- the first of the old ones, with the weight from the city that is taken in, stand in front of the new ones
pub record IsMoved (instance : Instance) (taken : Outside) (old new : List Outside) (kept place : ℕ) : Type 0 where
  pub front : take kept new ≡ left_over instance taken (take place old)
  pub rest : drop place new ≡ drop place old
  pub behind : kept ≤ place
  pub long : length new ≡ length old

map-append : {X Y : Type 0} (f : X → Y) (xs ys : List X) → map f (xs ++ ys) ≡ map f xs ++ map f ys
map-append f [] ys = refl
map-append f (x ∷ xs) ys = ap (λ zs. f x ∷ zs) (map-append f xs ys)

pub get-rest : {X : Type 0} (xs ys : List X) (i : ℕ) (d : X) → drop i xs ≡ drop i ys → i < length xs → i < length ys → get_or xs i d ≡ get_or ys i d
get-rest xs ys i d e l m = same (get_or xs i d) (get_or ys i d) (drop (i + 1) xs) (drop (i + 1) ys) (sym (drop_more xs i d l) ∙ e ∙ drop_more ys i d m)
  where
    same : {Y : Type 0} (x y : Y) (us vs : List Y) → x ∷ us ≡ y ∷ vs → x ≡ y
    same x y us vs h = cc

pub all-at : {X : Type 0} (P : X → Type 0) (xs : List X) (i : ℕ) (d : X) → AllByRecursion P xs → i < length xs → P (get_or xs i d)
all-at P [] i d a l = absurd (omega (arith, l))
all-at P (x ∷ xs) zero d a l = a.0
all-at P (x ∷ xs) (suc i) d a l = all-at P xs i d a.1 (omega (arith, l))

module _ (instance : Instance) (taken : Outside) where
  left-push : (xs : List Outside) (x : Outside) → left_over instance taken (xs ++ x ∷ []) ≡ left_over instance taken xs ++ left_over instance taken (x ∷ [])
  left-push xs x = ap (map (updated instance taken)) (filter-append (is_left taken) xs (x ∷ [])) ∙ map-append (updated instance taken) (filter (is_left taken) xs) (filter (is_left taken) (x ∷ []))

  append-none : {X : Type 0} (xs : List X) → xs ++ [] ≡ xs
  append-none [] = refl
  append-none (x ∷ xs) = ap (λ ys. x ∷ ys) (append-none xs)

  module _ (old new : List Outside) (kept place : ℕ) (d : Outside) (moved : IsMoved instance taken old new kept place) (there : place < length old) where
    own : place < length new
    own = let long = moved.long in omega (arith, long, there)

    same : get_or new place d ≡ get_or old place d
    same = get-rest new old place d moved.rest own there

    -- the city itself is left out
    pub moved-out : (get_or new place d).city ≡ taken.city → IsMoved instance taken old new kept (place + 1)
    moved-out is = record {
      front =
          moved.front ∙ sym (ap (left_over instance taken) (take_more old place d there) ∙ left-push (take place old) (get_or old place d)
          ∙ ap (λ b. left_over instance taken (take place old) ++ map (updated instance taken) (cond b (get_or old place d ∷ []) [])) (gone (get_or old place d).city (ap (λ (o : Outside). o.city) (sym same) ∙ is))
          ∙ append-none (left_over instance taken (take place old)));
      rest = drop_more_same new old place moved.rest;
      behind = let behind = moved.behind in omega (arith, behind);
      long = moved.long;
    }
      where
        gone : (c : ℕ) → c ≡ taken.city → not (c == taken.city) ≡ false
        gone c e = grind (arith, nat_tests)

    -- another one is kept
    pub moved-on : (value : Outside) → value ≡ updated instance taken (get_or new place d) → (get_or new place d).city ≢ taken.city → IsMoved instance taken old (set new kept value) (kept + 1) (place + 1)
    moved-on value is apart =
        let behind = moved.behind in
        record {
          front =
              take_more_set new kept value (let l = own in omega (arith, l, behind))
              ∙ ap₂ (λ xs x. xs ++ x ∷ []) moved.front (is ∙ ap (updated instance taken) same)
              ∙ sym (ap (left_over instance taken) (take_more old place d there) ∙ left-push (take place old) (get_or old place d)
              ∙ ap (λ b. left_over instance taken (take place old) ++ map (updated instance taken) (cond b (get_or old place d ∷ []) [])) (stays (get_or old place d).city (λ e. apart (ap (λ (o : Outside). o.city) same ∙ e))));
          rest = drop-set-lt (place + 1) new kept value (omega (arith, behind)) ∙ drop_more_same new old place moved.rest;
          behind = omega (arith, behind);
          long = length-set new kept value ∙ moved.long;
        }
      where
        stays : (c : ℕ) → c ≢ taken.city → not (c == taken.city) ≡ true
        stays c n = grind (arith, nat_tests)

-- ---- how much is taken in

-- the one that is left has a weight that is allowed
pub left-allowed : (instance : Instance) (taken : Outside) (others : List Outside) → AreAllowed instance others → AreAllowed instance (left_over instance taken others)
left-allowed instance taken others a =
    AllByRecursion-map (IsAllowed instance) (updated instance taken) (filter (is_left taken) others)
    (AllByRecursion-weaker (IsAllowed instance) (λ o. IsAllowed instance (updated instance taken o))
    (λ o w. let small = w.small in record { from = w.from; to = w.to; small = omega (arith, small) })
    (filter (is_left taken) others) (filter-all (IsAllowed instance) (is_left taken) others a))

module _ (instance : Instance) where
  nearest-there : (first : Outside) (others : List Outside) → contains (outside (first ∷ others)) (nearest first others).city ≡ true
  nearest-there first others =
      nearest-has (λ (o : Outside). contains (outside (first ∷ others)) o.city ≡ true) first others (outside-all (first ∷ others)).0 (outside-all (first ∷ others)).1

  -- more rounds than cities change nothing
  pub grown-enough : (n m : ℕ) (others : List Outside) → length others ≤ n → length others ≤ m → grown instance n others ≡ grown instance m others
  grown-enough zero zero others l k = refl
  grown-enough zero (suc m) [] l k = refl
  grown-enough zero (suc m) (o ∷ os) l k = absurd (omega (arith, l))
  grown-enough (suc n) zero [] l k = refl
  grown-enough (suc n) zero (o ∷ os) l k = absurd (omega (arith, k))
  grown-enough (suc n) (suc m) [] l k = refl
  grown-enough (suc n) (suc m) (o ∷ os) l k =
      let fewer = left-fewer instance (nearest o os) (o ∷ os) (nearest-there o os) in
      ap (λ t. (nearest o os).near + t) (grown-enough n m (left_over instance (nearest o os) (o ∷ os)) (omega (arith, fewer, l)) (omega (arith, fewer, k)))

  -- no city adds more than the greatest weight
  pub grown-small : (n : ℕ) (others : List Outside) → AreAllowed instance others → grown instance n others ≤ n * 2147483647
  grown-small zero others a = omega arith
  grown-small (suc n) [] a = omega arith
  grown-small (suc n) (o ∷ os) a =
      let one = (nearest-has (IsAllowed instance) o os a.0 a.1).small in
      let more = grown-small n (left_over instance (nearest o os) (o ∷ os)) (left-allowed instance (nearest o os) (o ∷ os) a) in
      omega (arith, one, more)

  -- the nearest is taken in
  pub grown-step : (count : ℕ) (others : List Outside) (taken : Outside) → length others ≤ count → 1 ≤ length others → IsNearest others taken
      → (left : ℕ) → length (left_over instance taken others) ≤ left → (length (left_over instance taken others) < count) × (taken.near + grown instance left (left_over instance taken others) ≡ grown instance count others)
  grown-step count [] taken l some is left k = absurd is
  grown-step zero (o ∷ os) taken l some is left k = absurd (omega (arith, l))
  grown-step (suc count) (o ∷ os) taken l some is left k =
      subst (λ t. length (left_over instance t (o ∷ os)) ≤ left → (length (left_over instance t (o ∷ os)) < suc count) × (t.near + grown instance left (left_over instance t (o ∷ os)) ≡ grown instance (suc count) (o ∷ os))) (sym is)
      (λ fits.
      let fewer = left-fewer instance (nearest o os) (o ∷ os) (nearest-there o os) in
      (omega (arith, fewer, l), ap (λ t. (nearest o os).near + t) (grown-enough left count (left_over instance (nearest o os) (o ∷ os)) fits (omega (arith, fewer, l))))) k

pub nearest-allowed : (instance : Instance) (others : List Outside) (taken : Outside) → AreAllowed instance others → IsNearest others taken → IsAllowed instance taken
nearest-allowed instance [] taken a is = absurd is
nearest-allowed instance (o ∷ os) taken a is = subst (IsAllowed instance) (sym is) (nearest-has (IsAllowed instance) o os a.0 a.1)

-- ---- the whole set

pub beside-allowed : (instance : Instance) → IsWithinLimits instance → (start : ℕ) (cities : List ℕ) → AllByRecursion (λ k. (1 ≤ k) × (k ≤ instance.cities)) cities → AreAllowed instance (map (beside instance start) cities)
beside-allowed instance limits start cities a =
    AllByRecursion-map (IsAllowed instance) (beside instance start) cities
    (AllByRecursion-weaker (λ k. (1 ≤ k) × (k ≤ instance.cities)) (λ k. IsAllowed instance (beside instance start k))
    (λ k w. let small = weight-small instance limits start k in record { from = w.0; to = w.1; small = omega (arith, small) }) cities a)

-- different numbers from 1 to n are no more than n
pub different-few : (n : ℕ) (xs : List ℕ) → are_different xs ≡ true → AllByRecursion (λ k. (1 ≤ k) × (k ≤ n)) xs → length xs ≤ n
different-few zero [] d w = omega arith
different-few zero (x ∷ xs) d w = absurd (omega (arith, w.0))
different-few (suc n) xs d w =
    elim (contains xs (suc n)) as (λ b. contains xs (suc n) ≡ b → length xs ≤ suc n) [
      | true ↦ λ h.
          let less = length-without (suc n) xs d h in
          let rest = different-few n (filter (is_other (suc n)) xs) (kept-different (is_other (suc n)) xs d)
          (below xs w) in
          omega (arith, less, rest)
      | false ↦ λ h.
          let rest = different-few n xs d (without xs h w) in
          omega (arith, rest)
    ]
    refl
  where
    below : (ys : List ℕ) → AllByRecursion (λ k. (1 ≤ k) × (k ≤ suc n)) ys → AllByRecursion (λ k. (1 ≤ k) × (k ≤ n)) (filter (is_other (suc n)) ys)
    below [] a = tt
    below (y ∷ ys) a =
        elim (suc n == y) as (λ b. (suc n == y) ≡ b → AllByRecursion (λ k. (1 ≤ k) × (k ≤ n)) (cond (not b) (y ∷ filter (is_other (suc n)) ys) (filter (is_other (suc n)) ys))) [
          | true ↦ λ e. below ys a.1
          | false ↦ λ e. ((a.0.0, lower y a.0.1 e), below ys a.1)
        ]
        refl
      where
        lower : (z : ℕ) → z ≤ suc n → (suc n == z) ≡ false → z ≤ n
        lower z l e = grind (arith, nat_tests)

    without : (ys : List ℕ) → contains ys (suc n) ≡ false → AllByRecursion (λ k. (1 ≤ k) × (k ≤ suc n)) ys → AllByRecursion (λ k. (1 ≤ k) × (k ≤ n)) ys
    without [] h a = tt
    without (y ∷ ys) h a = ((a.0.0, lower y (contains ys (suc n)) a.0.1 h), without ys (back (y == suc n) (contains ys (suc n)) h) a.1)
      where
        lower : (z : ℕ) (b : Bool) → z ≤ suc n → (z == suc n || b) ≡ false → z ≤ n
        lower z b l e = grind (arith, nat_tests)

        back : (b d : Bool) → (b || d) ≡ false → d ≡ false
        back b d e = grind (arith, nat_tests)

    kept-contains : (p : ℕ → Bool) (ys : List ℕ) (c : ℕ) → contains ys c ≡ false → contains (filter p ys) c ≡ false
    kept-contains p [] c h = h
    kept-contains p (y ∷ ys) c h =
        elim (p y) as (λ b. contains (cond b (y ∷ filter p ys) (filter p ys)) c ≡ false) [
          | true ↦ join (y == c) (contains ys c) (contains (filter p ys) c) h (kept-contains p ys c (back (y == c) (contains ys c) h))
          | false ↦ kept-contains p ys c (back (y == c) (contains ys c) h)
        ]
      where
        back : (b d : Bool) → (b || d) ≡ false → d ≡ false
        back b d e = grind (arith, nat_tests)

        join : (b d f : Bool) → (b || d) ≡ false → f ≡ false → (b || f) ≡ false
        join b d f e g = grind (arith, nat_tests)

    kept-different : (p : ℕ → Bool) (ys : List ℕ) → are_different ys ≡ true → are_different (filter p ys) ≡ true
    kept-different p [] d = refl
    kept-different p (y ∷ ys) d =
        let parts = and_parts (not (contains ys y)) (are_different ys) d in
        elim (p y) as (λ b. are_different (cond b (y ∷ filter p ys) (filter p ys)) ≡ true) [
          | true ↦ join (contains (filter p ys) y) (are_different (filter p ys)) (kept-contains p ys y (flip (contains ys y) parts.0)) (kept-different p ys parts.1)
          | false ↦ kept-different p ys parts.1
        ]
      where
        flip : (b : Bool) → not b ≡ true → b ≡ false
        flip b e = grind (arith, nat_tests)

        join : (b d : Bool) → b ≡ false → d ≡ true → (not b && d) ≡ true
        join b d e g = grind (arith, nat_tests)

-- the span by the first city and the others
pub span-parts : (instance : Instance) (cities : List ℕ) (d : ℕ) → 1 ≤ length cities → span instance cities ≡ grown instance (length cities - 1) (map (beside instance (get_or cities 0 d)) (drop 1 cities))
span-parts instance [] d l = absurd (omega (arith, l))
span-parts instance (c ∷ cs) d l = let e : length cs ≡ length (c ∷ cs) - 1 = omega arith in ap (λ n. grown instance n (map (beside instance c) cs)) e

pub all-rest : {X : Type 0} (P : X → Type 0) (xs : List X) → AllByRecursion P xs → AllByRecursion P (drop 1 xs)
all-rest P [] a = tt
all-rest P (x ∷ xs) a = a.1

-- what the number of cities and the weights allow
pub few-cities : (instance : Instance) (cities : List ℕ) → IsWithinLimits instance → are_different cities ≡ true → are_within 1 instance.cities cities ≡ true → length cities ≤ 60
few-cities instance cities limits different within =
    let most = different-few instance.cities cities different (within-parts 1 instance.cities cities within) in let few = limits.few in omega (arith, most, few)

pub span-small : (instance : Instance) (cities : List ℕ) → IsWithinLimits instance → 1 ≤ length cities → AllByRecursion (λ k. (1 ≤ k) × (k ≤ instance.cities)) cities → span instance cities ≤ (length cities - 1) * 2147483647
span-small instance cities limits some within =
    let parts = span-parts instance cities 0 some in
    let small = grown-small instance (length cities - 1) (map (beside instance (get_or cities 0 0)) (drop 1 cities)) (beside-allowed instance limits (get_or cities 0 0) (drop 1 cities) (all-rest (λ k. (1 ≤ k) × (k ≤ instance.cities)) cities within)) in
    omega (arith, parts, small)

-- a front of a list that is another list is as long
pub front-length : {X : Type 0} (xs ys : List X) (k : ℕ) → take k xs ≡ ys → k ≤ length xs → k ≡ length ys
front-length xs ys k e l = sym (length-take-le k xs l) ∙ ap length e

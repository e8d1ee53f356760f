-- Rising lists of numbers between two bounds, number by number.
use Rattle.std.proofs.Common.{◌≡◌, ℕ, ◌+◌, ◌<◌, ◌≤◌, Bool, true, false, ◌&&◌, ◌||◌, ◌==◌, nat_lt, nat_le, List, [], ◌∷◌, ◌++◌, refl, arith}
use Rattle.std.proofs.lemmas.Bool.Decides.{nat_tests}
use Rattle.yew_laws.specs.Sets.{contains, is_set, is_rising, are_within}
use Rattle.yew_semi.specs.GapLaws.{both_first, both_second, both, all-from, contains-head, contains-tail}

-- each number is at least low, at most high, and above the one before
abbrev pub rises_from : ℕ → ℕ → List ℕ → Bool
rises_from low high [] = true
rises_from low high (y ∷ ys) = nat_le low y && nat_le y high && rises_from (y + 1) high ys

pub le_test : (a b : ℕ) → a ≤ b → nat_le a b ≡ true
le_test a b h = grind (arith, nat_tests)

pub le_is : (a b : ℕ) → nat_le a b ≡ true → a ≤ b
le_is a b e = grind (arith, nat_tests)

pub lt_test : (a b : ℕ) → a < b → nat_lt a b ≡ true
lt_test a b h = grind (arith, nat_tests)

pub lt_is : (a b : ℕ) → nat_lt a b ≡ true → a < b
lt_is a b e = grind (arith, nat_tests)

-- the parts of a list that rises
pub record Rises (low high y : ℕ) (ys : List ℕ) : Type 0 where
  pub from : low ≤ y
  pub within : y ≤ high
  pub later : rises_from (y + 1) high ys ≡ true

pub rises-parts : (low high y : ℕ) (ys : List ℕ) → rises_from low high (y ∷ ys) ≡ true → Rises low high y ys
rises-parts low high y ys e =
    let first = both_first (nat_le low y && nat_le y high) (rises_from (y + 1) high ys) e in
    record {
      from = le_is low y (both_first (nat_le low y) (nat_le y high) first);
      within = le_is y high (both_second (nat_le low y) (nat_le y high) first);
      later = both_second (nat_le low y && nat_le y high) (rises_from (y + 1) high ys) e;
    }

pub rises-made : (low high y : ℕ) (ys : List ℕ) → low ≤ y → y ≤ high → rises_from (y + 1) high ys ≡ true → rises_from low high (y ∷ ys) ≡ true
rises-made low high y ys a b e =
    both (nat_le low y && nat_le y high) (rises_from (y + 1) high ys) (both (nat_le low y) (nat_le y high) (le_test low y a) (le_test y high b)) e

pub rises-lower : (low low' high : ℕ) (xs : List ℕ) → low' ≤ low → rises_from low high xs ≡ true → rises_from low' high xs ≡ true
rises-lower low low' high [] h e = refl
rises-lower low low' high (y ∷ ys) h e =
    let parts = rises-parts low high y ys e in
    rises-made low' high y ys (let from = parts.from in omega arith) parts.within parts.later

pub rises-at : (low high : ℕ) (xs : List ℕ) (x : ℕ) → rises_from low high xs ≡ true → contains xs x ≡ true → (low ≤ x) × (x ≤ high)
rises-at low high [] x e h = absurd (cc)
rises-at low high (y ∷ ys) x e h =
    let parts = rises-parts low high y ys e in
    let from = parts.from in
    let within = parts.within in
    elim (y == x) as (λ b. (y == x) ≡ b → (b || contains ys x) ≡ true → (low ≤ x) × (x ≤ high)) [
      | true ↦ λ is f. let same : y ≡ x = grind (arith, nat_tests) in (omega arith, omega arith)
      | false ↦ λ is f. let rest = rises-at (y + 1) high ys x parts.later f in let above = rest.0 in (omega arith, rest.1)
    ]
    refl h

-- another upper bound
pub rises-below : (low high high' : ℕ) (xs : List ℕ) → ((x : ℕ) → contains xs x ≡ true → x ≤ high') → rises_from low high xs ≡ true → rises_from low high' xs ≡ true
rises-below low high high' [] h e = refl
rises-below low high high' (y ∷ ys) h e =
    let parts = rises-parts low high y ys e in
    rises-made low high' y ys parts.from (h y (contains-head y ys)) (rises-below (y + 1) high high' ys (λ x f. h x (contains-tail y ys x f)) parts.later)

-- one more number at the end
pub record RisesTo (low high : ℕ) (xs : List ℕ) (g : ℕ) : Type 0 where
  pub front : rises_from low high xs ≡ true
  pub from : low ≤ g
  pub within : g ≤ high
  pub above : (x : ℕ) → contains xs x ≡ true → x < g

pub snoc-rises : (low high : ℕ) (xs : List ℕ) (g : ℕ) → rises_from low high (xs ++ g ∷ []) ≡ true → RisesTo low high xs g
snoc-rises low high [] g e =
    let parts = rises-parts low high g [] e in
    record { front = refl; from = parts.from; within = parts.within; above = λ x f. absurd (cc) }
snoc-rises low high (y ∷ ys) g e =
    let parts = rises-parts low high y (ys ++ g ∷ []) e in
    let rest = snoc-rises (y + 1) high ys g parts.later in
    let from = parts.from in
    let above = rest.from in
    record {
      front = rises-made low high y ys parts.from parts.within rest.front;
      from = omega arith;
      within = rest.within;
      above = λ x f.
          elim (y == x) as (λ b. (y == x) ≡ b → (b || contains ys x) ≡ true → x < g) [
            | true ↦ λ is f'. let same : y ≡ x = grind (arith, nat_tests) in omega arith
            | false ↦ λ is f'. rest.above x f'
          ]
          refl f;
    }

pub rises-snoc : (low high : ℕ) (xs : List ℕ) (g : ℕ) → rises_from low high xs ≡ true → ((x : ℕ) → contains xs x ≡ true → x < g) → low ≤ g → g ≤ high → rises_from low high (xs ++ g ∷ []) ≡ true
rises-snoc low high [] g e h a b = rises-made low high g [] a b refl
rises-snoc low high (y ∷ ys) g e h a b =
    let parts = rises-parts low high y ys e in
    let first = h y (contains-head y ys) in
    rises-made low high y (ys ++ g ∷ []) parts.from parts.within (rises-snoc (y + 1) high ys g parts.later (λ x f. h x (contains-tail y ys x f)) (omega arith) b)

within-above : (y low high z : ℕ) (zs : List ℕ) → y < z → is_rising (z ∷ zs) ≡ true → are_within low high (z ∷ zs) ≡ true → are_within (y + 1) high (z ∷ zs) ≡ true
within-above y low high z [] less e w =
    let first = both_first (nat_le low z && nat_le z high) true w in
    both (nat_le (y + 1) z && nat_le z high) true (both (nat_le (y + 1) z) (nat_le z high) (le_test (y + 1) z (omega arith)) (both_second (nat_le low z) (nat_le z high) first)) refl
within-above y low high z (x ∷ xs) less e w =
    let first = both_first (nat_le low z && nat_le z high) (are_within low high (x ∷ xs)) w in
    let more = lt_is z x (both_first (nat_lt z x) (is_rising (x ∷ xs)) e) in
    both (nat_le (y + 1) z && nat_le z high) (are_within (y + 1) high (x ∷ xs)) (both (nat_le (y + 1) z) (nat_le z high) (le_test (y + 1) z (omega arith)) (both_second (nat_le low z) (nat_le z high) first))
    (within-above y low high x xs (omega arith) (both_second (nat_lt z x) (is_rising (x ∷ xs)) e) (both_second (nat_le low z && nat_le z high) (are_within low high (x ∷ xs)) w))

rises-from_parts : (low high : ℕ) (xs : List ℕ) → is_rising xs ≡ true → are_within low high xs ≡ true → rises_from low high xs ≡ true
rises-from_parts low high [] e w = refl
rises-from_parts low high (y ∷ []) e w = w
rises-from_parts low high (y ∷ z ∷ zs) e w =
    let less = lt_is y z (both_first (nat_lt y z) (is_rising (z ∷ zs)) e) in
    let rising = both_second (nat_lt y z) (is_rising (z ∷ zs)) e in
    let first = both_first (nat_le low y && nat_le y high) (are_within low high (z ∷ zs)) w in
    let others = both_second (nat_le low y && nat_le y high) (are_within low high (z ∷ zs)) w in
    both (nat_le low y && nat_le y high) (rises_from (y + 1) high (z ∷ zs)) first
    (rises-from_parts (y + 1) high (z ∷ zs) rising (within-above y low high z zs less rising others))

rising-from_rises : (low high : ℕ) (xs : List ℕ) → rises_from low high xs ≡ true → is_rising xs ≡ true
rising-from_rises low high [] e = refl
rising-from_rises low high (y ∷ []) e = refl
rising-from_rises low high (y ∷ z ∷ zs) e =
    let parts = rises-parts low high y (z ∷ zs) e in
    let more = rises-parts (y + 1) high z zs parts.later in
    let from = more.from in
    both (nat_lt y z) (is_rising (z ∷ zs)) (lt_test y z (omega arith)) (rising-from_rises (y + 1) high (z ∷ zs) parts.later)

-- a set between two bounds is such a list
pub rises-from_set : (low high : ℕ) (xs : List ℕ) → is_set low high xs ≡ true → rises_from low high xs ≡ true
rises-from_set low high xs e =
    rises-from_parts low high xs (both_first (is_rising xs) (are_within low high xs) e) (both_second (is_rising xs) (are_within low high xs) e)

pub set-from_rises : (low high : ℕ) (xs : List ℕ) → rises_from low high xs ≡ true → is_set low high xs ≡ true
set-from_rises low high xs e =
    both (is_rising xs) (are_within low high xs) (rising-from_rises low high xs e)
    (all-from (λ x. nat_le low x && nat_le x high) xs
    (λ x f. let at = rises-at low high xs x e f in both (nat_le low x) (nat_le x high) (le_test low x at.0) (le_test x high at.1)))

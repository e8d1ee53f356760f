-- Lists of numbers: what a test keeps of a range, one more number at the end, one number taken out.
use Rattle.std.specs.Prelude.{◌≡◌, ◌≢◌, ℕ, ◌+◌, ◌<◌, ◌≤◌, Bool, true, false, not, ◌&&◌, ◌||◌, ◌==◌, List, [], ◌∷◌, ◌++◌, length, filter, sum_by, slice_get, Some, nat_le, refl}
use Rattle.std.specs.List.{AllByRecursion, range_with_len}
use Rattle.std.proofs.Common.{zero, suc, cond, ap, ap₂, sym, subst, ◌∙◌, arith, inl, inr}
use Rattle.std.proofs.lemmas.Bool.{and_from, and_parts, cases_eq, le-leb, leb-true, true≢false}
use Rattle.std.proofs.lemmas.Bool.Decides.{nat_tests}
use Rattle.std.proofs.lemmas.List.Sums.{sum_by-cons}
use Rattle.std.proofs.lemmas.Option.{same_Some, none-some}
use Rattle.yew_laws.specs.Sets.{contains, are_different, are_within}
use Rattle.yew_laws.proofs.Members.{AllByRecursion-weaker}

-- ---- what a test keeps

pub filter-all : {X : Type 0} (P : X → Type 0) (p : X → Bool) (xs : List X) → AllByRecursion P xs → AllByRecursion P (filter p xs)
filter-all P p [] a = tt
filter-all P p (x ∷ xs) a =
    elim (p x) as (λ b. AllByRecursion P (cond b (x ∷ filter p xs) (filter p xs))) [
      | true ↦ (a.0, filter-all P p xs a.1)
      | false ↦ filter-all P p xs a.1
    ]

pub filter-passes : {X : Type 0} (p : X → Bool) (xs : List X) → AllByRecursion (λ x. p x ≡ true) (filter p xs)
filter-passes p [] = tt
filter-passes p (x ∷ xs) =
    elim (p x) as (λ b. p x ≡ b → AllByRecursion (λ y. p y ≡ true) (cond b (x ∷ filter p xs) (filter p xs))) [
      | true ↦ λ e. (e, filter-passes p xs)
      | false ↦ λ e. filter-passes p xs
    ]
    refl

pub filter-agree : {X : Type 0} (p q : X → Bool) (xs : List X) → AllByRecursion (λ x. p x ≡ q x) xs → filter p xs ≡ filter q xs
filter-agree p q [] a = refl
filter-agree p q (x ∷ xs) a =
    ap (λ b. cond b (x ∷ filter p xs) (filter p xs)) a.0 ∙ ap (λ ys. cond (q x) (x ∷ ys) ys) (filter-agree p q xs a.1)

pub filter-every : {X : Type 0} (p : X → Bool) (xs : List X) → AllByRecursion (λ x. p x ≡ true) xs → filter p xs ≡ xs
filter-every p [] a = refl
filter-every p (x ∷ xs) a = ap (λ b. cond b (x ∷ filter p xs) (filter p xs)) a.0 ∙ ap (λ ys. x ∷ ys) (filter-every p xs a.1)

pub filter-nothing : {X : Type 0} (p : X → Bool) (xs : List X) → AllByRecursion (λ x. p x ≡ false) xs → filter p xs ≡ []
filter-nothing p [] a = refl
filter-nothing p (x ∷ xs) a = ap (λ b. cond b (x ∷ filter p xs) (filter p xs)) a.0 ∙ filter-nothing p xs a.1

pub filter-append : {X : Type 0} (p : X → Bool) (xs ys : List X) → filter p (xs ++ ys) ≡ filter p xs ++ filter p ys
filter-append p [] ys = refl
filter-append p (x ∷ xs) ys =
    elim (p x) as (λ b. cond b (x ∷ filter p (xs ++ ys)) (filter p (xs ++ ys)) ≡ cond b (x ∷ filter p xs) (filter p xs) ++ filter p ys) [
      | true ↦ ap (λ zs. x ∷ zs) (filter-append p xs ys)
      | false ↦ filter-append p xs ys
    ]

-- what passes two tests, one after the other
pub filter-filter : {X : Type 0} (p q : X → Bool) (xs : List X) → filter q (filter p xs) ≡ filter (λ x. p x && q x) xs
filter-filter p q [] = refl
filter-filter p q (x ∷ xs) =
    elim (p x) as (λ b. filter q (cond b (x ∷ filter p xs) (filter p xs)) ≡ cond (b && q x) (x ∷ filter (λ y. p y && q y) xs) (filter (λ y. p y && q y) xs)) [
      | true ↦ ap (λ ys. cond (q x) (x ∷ ys) ys) (filter-filter p q xs)
      | false ↦ filter-filter p q xs
    ]

-- ---- ranges

pub length-range : (a n : ℕ) → length (range_with_len a n) ≡ n
length-range a zero = refl
length-range a (suc n) = ap suc (length-range (a + 1) n)

pub range-all : (P : ℕ → Type 0) (a n : ℕ) → ((k : ℕ) → a ≤ k → k < a + n → P k) → AllByRecursion P (range_with_len a n)
range-all P a zero h = tt
range-all P a (suc n) h = (h a (omega arith) (omega arith), range-all P (a + 1) n (λ k l m. h k (omega arith) (omega arith)))

pub range-append : (a n m : ℕ) → range_with_len a (n + m) ≡ range_with_len a n ++ range_with_len (a + n) m
range-append a zero m = let e : 0 + m ≡ m = omega arith in let f : a ≡ a + 0 = omega arith in ap₂ range_with_len f e
range-append a (suc n) m =
    let e : suc n + m ≡ suc (n + m) = omega arith in
    let f : a + 1 + n ≡ a + suc n = omega arith in
    ap (range_with_len a) e ∙ ap (λ ks. a ∷ ks) (range-append (a + 1) n m ∙ ap (λ b. range_with_len (a + 1) n ++ range_with_len b m) f)

-- what a test keeps of a range and of a shorter one in it
pub filter-range : (p : ℕ → Bool) (a n m l : ℕ) → ((k : ℕ) → k < a + n → a ≤ k → p k ≡ false) → ((k : ℕ) → a + n + m ≤ k → p k ≡ false) → filter p (range_with_len a (n + (m + l))) ≡ filter p (range_with_len (a + n) m)
filter-range p a n m l before after =
    ap (filter p) (range-append a n (m + l)) ∙ filter-append p (range_with_len a n) (range_with_len (a + n) (m + l))
    ∙ ap (λ ks. ks ++ filter p (range_with_len (a + n) (m + l))) (filter-nothing p (range_with_len a n) (range-all (λ k. p k ≡ false) a n (λ k x y. before k y x)))
    ∙ ap (filter p) (range-append (a + n) m l) ∙ filter-append p (range_with_len (a + n) m) (range_with_len (a + n + m) l)
    ∙ ap (λ ks. filter p (range_with_len (a + n) m) ++ ks) (filter-nothing p (range_with_len (a + n + m) l) (range-all (λ k. p k ≡ false) (a + n + m) l (λ k x y. after k x)))
    ∙ append_nil (filter p (range_with_len (a + n) m))
  where
    append_nil : (ks : List ℕ) → ks ++ [] ≡ ks
    append_nil [] = refl
    append_nil (k ∷ ks) = ap (λ js. k ∷ js) (append_nil ks)

-- ---- members

pub contains-append : (xs ys : List ℕ) (c : ℕ) → contains (xs ++ ys) c ≡ (contains xs c || contains ys c)
contains-append [] ys c = refl
contains-append (x ∷ xs) ys c = ap (λ b. x == c || b) (contains-append xs ys c) ∙ or_assoc (x == c) (contains xs c) (contains ys c)
  where
    or_assoc : (a b d : Bool) → (a || (b || d)) ≡ ((a || b) || d)
    or_assoc true b d = refl
    or_assoc false b d = refl

or_false : (b : Bool) → (b || false) ≡ b
or_false true = refl
or_false false = refl

pub contains-push : (xs : List ℕ) (c y : ℕ) → contains (xs ++ c ∷ []) y ≡ (contains xs y || c == y)
contains-push xs c y = contains-append xs (c ∷ []) y ∙ ap (λ b. contains xs y || b) (or_false (c == y))

-- what holds of each member
pub member-all : (P : ℕ → Type 0) (xs : List ℕ) (c : ℕ) → AllByRecursion P xs → contains xs c ≡ true → P c
member-all P [] c a h = absurd (true≢false (sym h))
member-all P (x ∷ xs) c a h =
    elim (cases_eq x c) [
      | inl same ↦ subst P same a.0
      | inr other ↦ member-all P xs c a.1 (skips x c xs other h)
    ]
  where
    skips : (y d : ℕ) (ys : List ℕ) → y ≢ d → contains (y ∷ ys) d ≡ true → contains ys d ≡ true
    skips y d ys other e = grind (arith, nat_tests)

-- what a list lacks differs from each member
pub lacks-all : (xs : List ℕ) (c : ℕ) → contains xs c ≡ false → AllByRecursion (λ x. (x == c) ≡ false) xs
lacks-all [] c h = tt
lacks-all (x ∷ xs) c h = (front (x == c) (contains xs c) h, lacks-all xs c (back (x == c) (contains xs c) h))
  where
    front : (a b : Bool) → (a || b) ≡ false → a ≡ false
    front a b e = grind (arith, nat_tests)

    back : (a b : Bool) → (a || b) ≡ false → b ≡ false
    back a b e = grind (arith, nat_tests)

pub lacks-from : (xs : List ℕ) (c : ℕ) → AllByRecursion (λ x. (x == c) ≡ false) xs → contains xs c ≡ false
lacks-from [] c a = refl
lacks-from (x ∷ xs) c a = ap₂ (λ u v. u || v) a.0 (lacks-from xs c a.1)

-- ---- one more number at the end

pub different-push : (xs : List ℕ) (c : ℕ) → are_different xs ≡ true → contains xs c ≡ false → are_different (xs ++ c ∷ []) ≡ true
different-push [] c d n = refl
different-push (x ∷ xs) c d n =
    let parts = and_parts (not (contains xs x)) (are_different xs) d in
    and_from (not (contains (xs ++ c ∷ []) x)) (are_different (xs ++ c ∷ []))
    (ap not (contains-push xs c x) ∙ neither x c xs parts.0 n)
    (different-push xs c parts.1 (later x c xs n))
  where
    neither : (y e : ℕ) (ys : List ℕ) → not (contains ys y) ≡ true → contains (y ∷ ys) e ≡ false → not (contains ys y || e == y) ≡ true
    neither y e ys h k = grind (arith, nat_tests)

    later : (y e : ℕ) (ys : List ℕ) → contains (y ∷ ys) e ≡ false → contains ys e ≡ false
    later y e ys k = grind (arith, nat_tests)

pub different-last : (xs : List ℕ) (c : ℕ) → are_different (xs ++ c ∷ []) ≡ true → contains xs c ≡ false
different-last [] c d = refl
different-last (x ∷ xs) c d =
    let parts = and_parts (not (contains (xs ++ c ∷ []) x)) (are_different (xs ++ c ∷ [])) d in
    let none : not (contains xs x || c == x) ≡ true = ap not (sym (contains-push xs c x)) ∙ parts.0 in
    apart x c xs none (different-last xs c parts.1)
  where
    apart : (y e : ℕ) (ys : List ℕ) → not (contains ys y || e == y) ≡ true → contains ys e ≡ false → contains (y ∷ ys) e ≡ false
    apart y e ys h k = grind (arith, nat_tests)

pub within-push : (low high : ℕ) (xs : List ℕ) (c : ℕ) → are_within low high xs ≡ true → low ≤ c → c ≤ high → are_within low high (xs ++ c ∷ []) ≡ true
within-push low high [] c w l m = and_from (nat_le low c && nat_le c high) true (and_from (nat_le low c) (nat_le c high) (le-leb low c l) (le-leb c high m)) refl
within-push low high (x ∷ xs) c w l m =
    let parts = and_parts (nat_le low x && nat_le x high) (are_within low high xs) w in
    and_from (nat_le low x && nat_le x high) (are_within low high (xs ++ c ∷ [])) parts.0 (within-push low high xs c parts.1 l m)

pub within-parts : (low high : ℕ) (xs : List ℕ) → are_within low high xs ≡ true → AllByRecursion (λ k. (low ≤ k) × (k ≤ high)) xs
within-parts low high [] e = tt
within-parts low high (x ∷ xs) e =
    let both = and_parts (nat_le low x && nat_le x high) (are_within low high xs) e in
    let own = and_parts (nat_le low x) (nat_le x high) both.0 in
    ((leb-true low x own.0, leb-true x high own.1), within-parts low high xs both.1)

pub within-all : (low high : ℕ) (xs : List ℕ) → AllByRecursion (λ k. (low ≤ k) × (k ≤ high)) xs → are_within low high xs ≡ true
within-all low high [] a = refl
within-all low high (x ∷ xs) a =
    and_from (nat_le low x && nat_le x high) (are_within low high xs)
    (and_from (nat_le low x) (nat_le x high) (le-leb low x a.0.0) (le-leb x high a.0.1))
    (within-all low high xs a.1)

-- ---- one number taken out

-- the other numbers
abbrev pub is_other : ℕ → ℕ → Bool
is_other c x = not (c == x)

others-every : (c : ℕ) (xs : List ℕ) → contains xs c ≡ false → filter (is_other c) xs ≡ xs
others-every c xs h =
    filter-every (is_other c) xs (AllByRecursion-weaker (λ x. (x == c) ≡ false) (λ x. is_other c x ≡ true) (λ x e. flips x e) xs (lacks-all xs c h))
  where
    flips : (x : ℕ) → (x == c) ≡ false → is_other c x ≡ true
    flips x e = grind (arith, nat_tests)

pub length-without : (c : ℕ) (xs : List ℕ) → are_different xs ≡ true → contains xs c ≡ true → length (filter (is_other c) xs) + 1 ≡ length xs
length-without c [] d h = absurd (true≢false (sym h))
length-without c (x ∷ xs) d h =
    let parts = and_parts (not (contains xs x)) (are_different xs) d in
    elim (c == x) as (λ b. (c == x) ≡ b → length (cond (not b) (x ∷ filter (is_other c) xs) (filter (is_other c) xs)) + 1 ≡ suc (length xs)) [
      | true ↦ λ e. let n = ap length (others-every c xs (gone x xs e parts.0)) in omega (arith, n)
      | false ↦ λ e. let n = length-without c xs parts.1 (stays x xs e h) in omega (arith, n)
    ]
    refl
  where
    gone : (y : ℕ) (ys : List ℕ) → (c == y) ≡ true → not (contains ys y) ≡ true → contains ys c ≡ false
    gone y ys e n = let same : y ≡ c = grind (arith, nat_tests) in subst (λ z. contains ys z ≡ false) same (flip (contains ys y) n)
      where
        flip : (b : Bool) → not b ≡ true → b ≡ false
        flip b k = grind (arith, nat_tests)

    stays : (y : ℕ) (ys : List ℕ) → (c == y) ≡ false → contains (y ∷ ys) c ≡ true → contains ys c ≡ true
    stays y ys e k = grind (arith, nat_tests)

pub sum_by-without : (f : ℕ → ℕ) (c : ℕ) (xs : List ℕ) → are_different xs ≡ true → contains xs c ≡ true → sum_by f xs ≡ f c + sum_by f (filter (is_other c) xs)
sum_by-without f c [] d h = absurd (true≢false (sym h))
sum_by-without f c (x ∷ xs) d h =
    let parts = and_parts (not (contains xs x)) (are_different xs) d in
    elim (c == x) as (λ b. (c == x) ≡ b → sum_by f (x ∷ xs) ≡ f c + sum_by f (cond (not b) (x ∷ filter (is_other c) xs) (filter (is_other c) xs))) [
      | true ↦ λ e.
          let same : c ≡ x = equal_is c x e in
          sum_by-cons f x xs ∙ ap₂ (λ y ys. f y + sum_by f ys) (sym same) (sym (others-every c xs (gone x xs e parts.0)))
      | false ↦ λ e.
          let cons = sum_by-cons f x xs in
          let rest = sum_by-without f c xs parts.1 (stays x xs e h) in
          let more = sum_by-cons f x (filter (is_other c) xs) in
          omega (arith, cons, rest, more)
    ]
    refl
  where
    equal_is : (a b : ℕ) → (a == b) ≡ true → a ≡ b
    equal_is a b e = grind (arith, nat_tests)

    gone : (y : ℕ) (ys : List ℕ) → (c == y) ≡ true → not (contains ys y) ≡ true → contains ys c ≡ false
    gone y ys e n = subst (λ z. contains ys z ≡ false) (sym (equal_is c y e)) (flip (contains ys y) n)
      where
        flip : (b : Bool) → not b ≡ true → b ≡ false
        flip b k = grind (arith, nat_tests)

    stays : (y : ℕ) (ys : List ℕ) → (c == y) ≡ false → contains (y ∷ ys) c ≡ true → contains ys c ≡ true
    stays y ys e k = grind (arith, nat_tests)

-- ---- what a test keeps of a range

-- no number stands twice
pub filter-different : (p : ℕ → Bool) (a n : ℕ) → are_different (filter p (range_with_len a n)) ≡ true
filter-different p a zero = refl
filter-different p a (suc n) =
    elim (p a) as (λ b. are_different (cond b (a ∷ filter p (range_with_len (a + 1) n)) (filter p (range_with_len (a + 1) n))) ≡ true) [
      | true ↦
          and_from (not (contains (filter p (range_with_len (a + 1) n)) a)) (are_different (filter p (range_with_len (a + 1) n)))
          (ap not (lacks-from (filter p (range_with_len (a + 1) n)) a (filter-all (λ x. (x == a) ≡ false) p (range_with_len (a + 1) n) (range-all (λ x. (x == a) ≡ false) (a + 1) n (λ k l m. later k l)))))
          (filter-different p (a + 1) n)
      | false ↦ filter-different p (a + 1) n
    ]
  where
    later : (k : ℕ) → a + 1 ≤ k → (k == a) ≡ false
    later k l = grind (arith, nat_tests)

-- a number of the range that passes is kept
pub filter-contains : (p : ℕ → Bool) (a n x : ℕ) → a ≤ x → x < a + n → p x ≡ true → contains (filter p (range_with_len a n)) x ≡ true
filter-contains p a zero x l m h = absurd (omega arith)
filter-contains p a (suc n) x l m h =
    elim (cases_eq a x) [
      | inl same ↦
          ap (λ b. contains (cond b (a ∷ filter p (range_with_len (a + 1) n)) (filter p (range_with_len (a + 1) n))) x) (ap p same ∙ h)
          ∙ front (filter p (range_with_len (a + 1) n)) same
      | inr other ↦ keeps (p a) a (filter p (range_with_len (a + 1) n)) (filter-contains p (a + 1) n x (omega arith) (omega arith) h)
    ]
  where
    front : (ys : List ℕ) → a ≡ x → contains (a ∷ ys) x ≡ true
    front ys e = grind (arith, nat_tests)

    keeps : (b : Bool) (y : ℕ) (ys : List ℕ) → contains ys x ≡ true → contains (cond b (y ∷ ys) ys) x ≡ true
    keeps true y ys e = grind (arith, nat_tests)
    keeps false y ys e = e

-- ---- places

apart : (b : Bool) → not b ≡ true → b ≡ true → ⊥
apart b h k = grind (arith, nat_tests)

-- a number at a place is a member
pub stands : (xs : List ℕ) (k c : ℕ) → slice_get xs k ≡ Some c → contains xs c ≡ true
stands [] k c e = absurd (none-some c e)
stands (x ∷ xs) zero c e = let same = same_Some x c e in front x c xs same
  where
    front : (y d : ℕ) (ys : List ℕ) → y ≡ d → contains (y ∷ ys) d ≡ true
    front y d ys h = grind (arith, nat_tests)
stands (x ∷ xs) (suc k) c e = behind (x == c) (contains xs c) (stands xs k c e)
  where
    behind : (b d : Bool) → d ≡ true → (b || d) ≡ true
    behind b d h = grind (arith, nat_tests)

-- a place of a member
pub place_of : (xs : List ℕ) (c : ℕ) → contains xs c ≡ true → (k : ℕ) × (slice_get xs k ≡ Some c)
place_of [] c h = absurd (true≢false (sym h))
place_of (x ∷ xs) c h =
    elim (cases_eq x c) [
      | inl same ↦ (0, ap Some same)
      | inr other ↦ let rest = place_of xs c (skips x c xs other h) in (suc rest.0, rest.1)
    ]
  where
    skips : (y d : ℕ) (ys : List ℕ) → y ≢ d → contains (y ∷ ys) d ≡ true → contains ys d ≡ true
    skips y d ys other e = grind (arith, nat_tests)

-- different numbers stand at one place each
pub one_place : (xs : List ℕ) (j k c : ℕ) → are_different xs ≡ true → slice_get xs j ≡ Some c → slice_get xs k ≡ Some c → j ≡ k
one_place [] j k c d e f = absurd (none-some c e)
one_place (x ∷ xs) zero zero c d e f = refl
one_place (x ∷ xs) zero (suc k) c d e f =
    let parts = and_parts (not (contains xs x)) (are_different xs) d in
    absurd (apart (contains xs x) parts.0 (stands xs k x (f ∙ ap Some (sym (same_Some x c e)))))
one_place (x ∷ xs) (suc j) zero c d e f =
    let parts = and_parts (not (contains xs x)) (are_different xs) d in
    absurd (apart (contains xs x) parts.0 (stands xs j x (e ∙ ap Some (sym (same_Some x c f)))))
one_place (x ∷ xs) (suc j) (suc k) c d e f =
    let parts = and_parts (not (contains xs x)) (are_different xs) d in
    ap suc (one_place xs j k c parts.1 e f)

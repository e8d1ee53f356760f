-- No gap of a semigroup with k gaps is above 2k - 1: of two numbers from 1 up whose sum is a gap, one is a gap.
use Rattle.std.proofs.Common.{◌≡◌, ℕ, zero, suc, ◌+◌, ◌-◌, ◌*◌, ◌<◌, ◌≤◌, Bool, true, false, cond, ◌||◌, ◌==◌, List, [], ◌∷◌, length, refl, ap, arith}
use Rattle.std.proofs.lemmas.Bool.Decides.{nat_tests}
use Rattle.yew_laws.specs.Sets.{contains}
use Rattle.yew_semi.specs.GapLaws.{IsClosed}

-- 1 for a member, and 0 for another number
abbrev pub counted : List ℕ → ℕ → ℕ
counted xs a = cond (contains xs a) 1 0

-- how many members stand from 1 to n
abbrev pub members_to : List ℕ → ℕ → ℕ
members_to xs zero = 0
members_to xs (suc n) = members_to xs n + counted xs (suc n)

-- how many members stand from g - n to g - 1
abbrev members_from : List ℕ → ℕ → ℕ → ℕ
members_from xs g zero = 0
members_from xs g (suc n) = members_from xs g n + counted xs (g - suc n)

-- one of the two is a member
abbrev IsPaired : List ℕ → ℕ → Type 0
IsPaired xs g = (a : ℕ) → 0 < a → a < g → 1 ≤ counted xs a + counted xs (g - a)

paired-from_closed : (xs : List ℕ) → IsClosed xs → (g : ℕ) → contains xs g ≡ true → IsPaired xs g
paired-from_closed xs closed g inside a from below =
    elim (contains xs a) as (λ b. contains xs a ≡ b → 1 ≤ cond b 1 0 + counted xs (g - a)) [
      | true ↦ λ is. omega arith
      | false ↦ λ is.
          elim (contains xs (g - a)) as (λ b. contains xs (g - a) ≡ b → 1 ≤ 0 + cond b 1 0) [
            | true ↦ λ also. omega arith
            | false ↦ λ also. absurd (closed.no_sum g a inside (omega arith) is also)
          ]
          refl
    ]
    refl

pairs : (xs : List ℕ) (g : ℕ) → IsPaired xs g → (n : ℕ) → n < g → n ≤ members_to xs n + members_from xs g n
pairs xs g paired zero below = omega arith
pairs xs g paired (suc n) below =
    let one = paired (suc n) (omega arith) below in
    let rest = pairs xs g paired n (omega arith) in
    omega arith

mirrored : (xs : List ℕ) (g n m : ℕ) → n + m + 1 ≡ g → members_from xs g n + members_to xs m ≡ members_to xs (n + m)
mirrored xs g zero m e = let same : 0 + m ≡ m = omega arith in let law = ap (members_to xs) same in omega arith
mirrored xs g (suc n) m e =
    let next = mirrored xs g n (suc m) (omega arith) in
    let place : g - suc n ≡ suc m = omega arith in
    let here = ap (counted xs) place in
    let sum : n + suc m ≡ suc n + m = omega arith in
    let law = ap (members_to xs) sum in
    omega arith

none-counted : (n : ℕ) → members_to [] n ≡ 0
none-counted zero = refl
none-counted (suc n) = let rest = none-counted n in omega arith

-- 1 where the number stands from 1 to n
abbrev one_to : ℕ → ℕ → ℕ
one_to y zero = 0
one_to y (suc n) = one_to y n + cond (y == suc n) 1 0

one_to-past : (y n : ℕ) → n < y → one_to y n ≡ 0
one_to-past y zero h = refl
one_to-past y (suc n) h =
    let rest = one_to-past y n (omega arith) in
    let other : ◌≡◌ {A = ℕ} (cond (y == suc n) 1 0) 0 = grind (arith, nat_tests) in
    omega arith

one_to-most : (y n : ℕ) → one_to y n ≤ 1
one_to-most y zero = omega arith
one_to-most y (suc n) =
    elim (y == suc n) as (λ b. (y == suc n) ≡ b → one_to y n + cond b 1 0 ≤ 1) [
      | true ↦ λ is. let same : y ≡ suc n = grind (arith, nat_tests) in let none = one_to-past y n (omega arith) in omega arith
      | false ↦ λ is. let rest = one_to-most y n in omega arith
    ]
    refl

either : (a b : Bool) → cond (a || b) 1 0 ≤ cond a 1 0 + cond b 1 0
either true b = elim b as (λ v. 1 ≤ 1 + cond v 1 0) [ true ↦ omega arith | false ↦ omega arith ]
either false b = omega arith

counted-cons : (y : ℕ) (ys : List ℕ) (n : ℕ) → members_to (y ∷ ys) n ≤ one_to y n + members_to ys n
counted-cons y ys zero = omega arith
counted-cons y ys (suc n) =
    let rest = counted-cons y ys n in
    let here = either (y == suc n) (contains ys (suc n)) in
    omega arith

pub members_to-length : (xs : List ℕ) (n : ℕ) → members_to xs n ≤ length xs
members_to-length [] n = let none = none-counted n in omega arith
members_to-length (y ∷ ys) n =
    let step = counted-cons y ys n in
    let one = one_to-most y n in
    let rest = members_to-length ys n in
    omega arith

pub members-all : (xs : List ℕ) (n : ℕ) → ((x : ℕ) → 0 < x → x < n + 1 → contains xs x ≡ true) → members_to xs n ≡ n
members-all xs zero h = refl
members-all xs (suc n) h =
    let rest = members-all xs n (λ x from below. h x from (omega arith)) in
    let here : counted xs (suc n) ≡ 1 = ap (λ b. cond b 1 0) (h (suc n) (omega arith) (omega arith)) in
    omega arith

members_to-but_one : (xs : List ℕ) (g n : ℕ) → n < g → contains xs g ≡ true → members_to xs n < length xs
members_to-but_one [] g n h e = absurd (cc)
members_to-but_one (y ∷ ys) g n h e =
    elim (y == g) as (λ b. (y == g) ≡ b → (b || contains ys g) ≡ true → members_to (y ∷ ys) n < suc (length ys)) [
      | true ↦ λ is f.
          let same : y ≡ g = grind (arith, nat_tests) in
          let step = counted-cons y ys n in
          let none = one_to-past y n (omega arith) in
          let rest = members_to-length ys n in
          omega arith
      | false ↦ λ is f.
          let step = counted-cons y ys n in
          let one = one_to-most y n in
          let rest = members_to-but_one ys g n h f in
          omega arith
    ]
    refl e

-- no gap is above 2k - 1
pub gap-bound : (xs : List ℕ) → IsClosed xs → (g : ℕ) → contains xs g ≡ true → g + 1 ≤ 2 * length xs
gap-bound [] closed zero inside = absurd (cc)
gap-bound (y ∷ ys) closed zero inside = omega arith
gap-bound xs closed (suc n) inside =
    let paired = paired-from_closed xs closed (suc n) inside in
    let least = pairs xs (suc n) paired n (omega arith) in
    let same = mirrored xs (suc n) n 0 (omega arith) in
    let place : n + 0 ≡ n = omega arith in
    let law = ap (members_to xs) place in
    let most = members_to-but_one xs (suc n) n (omega arith) inside in
    omega arith

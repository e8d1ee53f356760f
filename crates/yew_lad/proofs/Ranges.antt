-- What a test picks of a range of numbers.
use Rattle.std.proofs.Common.{◌≡◌, ◌≢◌, ℕ, zero, suc, ◌+◌, ◌<◌, ◌≤◌, Bool, true, false, cond, ◌&&◌, ◌||◌, ◌==◌, List, [], ◌∷◌, ◌++◌, length, filter, refl, ap, ap₂, sym, ◌∙◌, arith}
use Rattle.std.proofs.lemmas.Bool.Decides.{nat_tests}
use Rattle.std.proofs.lemmas.List.{length-append}
use Rattle.std.proofs.lemmas.Nat.Bits.{bit_at-lt}
use Rattle.std.specs.Int.{bit_at}
use Rattle.std.specs.List.{range_with_len}
use Rattle.yew_laws.specs.Sets.{contains}

-- a bit is 0 or 1
pub bit_cases : {P : Type 0} (w x : ℕ) → (bit_at w x ≡ 0 → P) → (bit_at w x ≡ 1 → P) → P
bit_cases {P} w x f g =
    let small = bit_at-lt w x in
    elim (bit_at w x == 1) as (λ b. (bit_at w x == 1) ≡ b → P)
    [ true ↦ λ e. g (grind (arith, nat_tests)) | false ↦ λ e. let other : bit_at w x ≢ 1 = grind (arith, nat_tests) in f (omega arith) ]
    refl

-- two tests that agree keep the same
pub filter-agree : (p q : ℕ → Bool) (low n : ℕ) → ((x : ℕ) → low ≤ x → x < low + n → p x ≡ q x) → filter p (range_with_len low n) ≡ filter q (range_with_len low n)
filter-agree p q low zero h = refl
filter-agree p q low (suc n) h =
    let rest = filter-agree p q (low + 1) n (λ x a b. h x (omega arith) (omega arith)) in
    ap₂ (λ b xs. cond b (low ∷ xs) xs) (h low (omega arith) (omega arith)) rest

-- where none passes none is kept
pub filter-none : (p : ℕ → Bool) (low n : ℕ) → ((x : ℕ) → low ≤ x → x < low + n → p x ≡ false) → filter p (range_with_len low n) ≡ []
filter-none p low zero h = refl
filter-none p low (suc n) h =
    let rest = filter-none p (low + 1) n (λ x a b. h x (omega arith) (omega arith)) in
    ap₂ (λ b xs. cond b (low ∷ xs) xs) (h low (omega arith) (omega arith)) rest

-- what passes of a range in two parts
pub filter-parts : (p : ℕ → Bool) (low n m : ℕ) → filter p (range_with_len low (n + m)) ≡ filter p (range_with_len low n) ++ filter p (range_with_len (low + n) m)
filter-parts p low zero m =
    let same : 0 + m ≡ m = omega arith in
    let here : low ≡ low + 0 = omega arith in
    ap₂ (λ a k. filter p (range_with_len a k)) here same
filter-parts p low (suc n) m =
    let same : suc n + m ≡ suc (n + m) = omega arith in
    let next : low + 1 + n ≡ low + suc n = omega arith in
    ap (λ k. filter p (range_with_len low k)) same
    ∙ ap (λ xs. cond (p low) (low ∷ xs) xs) (filter-parts p (low + 1) n m ∙ ap (λ a. filter p (range_with_len (low + 1) n) ++ filter p (range_with_len a m)) next)
    ∙ push (p low) (filter p (range_with_len (low + 1) n)) (filter p (range_with_len (low + suc n) m))
  where
    push : (b : Bool) (xs ys : List ℕ) → cond b (low ∷ (xs ++ ys)) (xs ++ ys) ≡ cond b (low ∷ xs) xs ++ ys
    push true xs ys = refl
    push false xs ys = refl

-- the first number taken off
pub filter-pop : (p q : ℕ → Bool) (low n g : ℕ) → low ≤ g → g < low + n → ((x : ℕ) → low ≤ x → x < low + n → x ≢ g → p x ≡ q x) → p g ≡ true → q g ≡ false → ((x : ℕ) → low ≤ x → x < g → p x ≡ false) → filter p (range_with_len low n) ≡ g ∷ filter q (range_with_len low n)
filter-pop p q low zero g a b same old new first = absurd (omega arith)
filter-pop p q low (suc n) g a b same old new first =
    elim (low == g) as (λ v. (low == g) ≡ v → filter p (range_with_len low (suc n)) ≡ g ∷ filter q (range_with_len low (suc n))) [
      | true ↦ λ e.
          let here : low ≡ g = grind (arith, nat_tests) in
          let rest = filter-agree p q (low + 1) n (λ x c d. same x (omega arith) (omega arith) (omega arith)) in
          ap₂ (λ v xs. cond v (low ∷ xs) xs) (ap p here ∙ old) rest
          ∙ ap₂ (λ x xs. x ∷ xs) here (sym (ap (λ v. cond v (low ∷ filter q (range_with_len (low + 1) n)) (filter q (range_with_len (low + 1) n))) (ap q here ∙ new)))
      | false ↦ λ e.
          let other : low ≢ g = grind (arith, nat_tests) in
          let rest = filter-pop p q (low + 1) n g (omega arith) (omega arith) (λ x a b other'. same x (omega arith) (omega arith) other') old new (λ x a b. first x (omega arith) b) in
          let none = first low (omega arith) (omega arith) in
          ap₂ (λ v xs. cond v (low ∷ xs) xs) none rest
          ∙ ap (λ xs. g ∷ xs) (sym (ap (λ v. cond v (low ∷ filter q (range_with_len (low + 1) n)) (filter q (range_with_len (low + 1) n))) (sym (same low (omega arith) (omega arith) other) ∙ none)))
    ]
    refl

contains_cond : (b : Bool) (y x : ℕ) (ys : List ℕ) → contains (cond b (y ∷ ys) ys) x ≡ ((b && y == x) || contains ys x)
contains_cond true y x ys = refl
contains_cond false y x ys = refl

and_or : (b : Bool) → ((b && true) || false) ≡ b
and_or true = refl
and_or false = refl

or_none : (b c : Bool) → ((b && false) || c) ≡ c
or_none true c = refl
or_none false c = refl

contains-past : (p : ℕ → Bool) (low n x : ℕ) → x < low → contains (filter p (range_with_len low n)) x ≡ false
contains-past p low zero x a = refl
contains-past p low (suc n) x a =
    let other : (low == x) ≡ false = grind (arith, nat_tests) in
    contains_cond (p low) low x (filter p (range_with_len (low + 1) n))
    ∙ ap (λ u. (p low && u) || contains (filter p (range_with_len (low + 1) n)) x) other
    ∙ or_none (p low) (contains (filter p (range_with_len (low + 1) n)) x)
    ∙ contains-past p (low + 1) n x (omega arith)

-- a number is among those that pass where it is in the range and passes
pub contains-filter : (p : ℕ → Bool) (low n x : ℕ) → low ≤ x → x < low + n → contains (filter p (range_with_len low n)) x ≡ p x
contains-filter p low zero x a b = absurd (omega arith)
contains-filter p low (suc n) x a b =
    elim (low == x) as (λ v. (low == x) ≡ v → contains (filter p (range_with_len low (suc n))) x ≡ p x) [
      | true ↦ λ e.
          let here : low ≡ x = grind (arith, nat_tests) in
          let past = contains-past p (low + 1) n x (omega arith) in
          contains_cond (p low) low x (filter p (range_with_len (low + 1) n))
          ∙ ap₂ (λ u v. (p low && u) || v) e past
          ∙ and_or (p low) ∙ ap p here
      | false ↦ λ e.
          let other : low ≢ x = grind (arith, nat_tests) in
          contains_cond (p low) low x (filter p (range_with_len (low + 1) n))
          ∙ ap (λ u. (p low && u) || contains (filter p (range_with_len (low + 1) n)) x) e
          ∙ or_none (p low) (contains (filter p (range_with_len (low + 1) n)) x)
          ∙ contains-filter p (low + 1) n x (omega arith) (omega arith)
    ]
    refl

-- a number outside the range is not among them
pub contains-after : (p : ℕ → Bool) (low n x : ℕ) → low + n ≤ x → contains (filter p (range_with_len low n)) x ≡ false
contains-after p low zero x a = refl
contains-after p low (suc n) x a =
    let other : (low == x) ≡ false = grind (arith, nat_tests) in
    contains_cond (p low) low x (filter p (range_with_len (low + 1) n))
    ∙ ap (λ u. (p low && u) || contains (filter p (range_with_len (low + 1) n)) x) other
    ∙ or_none (p low) (contains (filter p (range_with_len (low + 1) n)) x)
    ∙ contains-after p (low + 1) n x (omega arith)

-- one number more of a range
pub filter-more : (p : ℕ → Bool) (low n : ℕ) → filter p (range_with_len low (suc n)) ≡ filter p (range_with_len low n) ++ cond (p (low + n)) ((low + n) ∷ []) []
filter-more p low n =
    let next : suc n ≡ n + 1 = omega arith in
    ap (λ k. filter p (range_with_len low k)) next ∙ filter-parts p low n 1

-- how many pass of one number more
pub count-more : (p : ℕ → Bool) (n : ℕ) → length (filter p (range_with_len 0 (n + 1))) ≡ length (filter p (range_with_len 0 n)) + cond (p n) 1 0
count-more p n =
    let here : 0 + n ≡ n = omega arith in
    let next : n + 1 ≡ suc n = omega arith in
    ap (λ k. length (filter p (range_with_len 0 k))) next
    ∙ ap length (filter-more p 0 n)
    ∙ length-append (filter p (range_with_len 0 n)) (cond (p (0 + n)) ((0 + n) ∷ []) [])
    ∙ ap (λ k. length (filter p (range_with_len 0 n)) + length (cond (p k) (k ∷ []) [])) here
    ∙ ap (λ k. length (filter p (range_with_len 0 n)) + k) (one (p n))
  where
    one : (b : Bool) → length (cond b (n ∷ []) []) ≡ cond b 1 0
    one true = refl
    one false = refl

-- The places of the bits of a word.
use Rattle.std.proofs.Common.{◌≡◌, ◌≢◌, ℕ, zero, suc, ◌+◌, ◌-◌, ◌*◌, ◌/◌, ◌%◌, ◌^◌, ◌<◌, ◌≤◌, Bool, true, false, cond, ◌&&◌, ◌||◌, ◌==◌, List, [], ◌∷◌, ◌++◌, filter, refl, ap, ap₂, sym, ◌∙◌, arith}
use Rattle.std.proofs.lemmas.Bool.Decides.{nat_tests}
use Rattle.std.proofs.lemmas.Nat.Bits.{bit_at-lt, bit_at-zero, bit_at_cat_low, bit_at_cat_high}
use Rattle.std.proofs.lemmas.Nat.{div-add-mod', pow_pos}
use Rattle.std.proofs.Math.Nat.{mod-lt}
use Rattle.std.specs.Int.{bit_at}
use Rattle.std.specs.List.{range_with_len}
use Rattle.yew_laws.specs.Sets.{contains}

-- a bit is 0 or 1
pub bit_cases : {P : Type 0} (w x : ℕ) → (bit_at w x ≡ 0 → P) → (bit_at w x ≡ 1 → P) → P
bit_cases {P} w x f g =
    let small = bit_at-lt w x in
    elim (bit_at w x == 1) as (λ b. (bit_at w x == 1) ≡ b → P)
    [ true ↦ λ e. g (grind (arith, nat_tests)) | false ↦ λ e. let other : bit_at w x ≢ 1 = grind (arith, nat_tests) in f (omega arith) ]
    refl

-- two tests that agree keep the same
pub filter-agree : (p q : ℕ → Bool) (low n : ℕ) → ((x : ℕ) → low ≤ x → x < low + n → p x ≡ q x) → filter p (range_with_len low n) ≡ filter q (range_with_len low n)
filter-agree p q low zero h = refl
filter-agree p q low (suc n) h =
    let rest = filter-agree p q (low + 1) n (λ x a b. h x (omega arith) (omega arith)) in
    ap₂ (λ b xs. cond b (low ∷ xs) xs) (h low (omega arith) (omega arith)) rest

-- where none passes none is kept
pub filter-none : (p : ℕ → Bool) (low n : ℕ) → ((x : ℕ) → low ≤ x → x < low + n → p x ≡ false) → filter p (range_with_len low n) ≡ []
filter-none p low zero h = refl
filter-none p low (suc n) h =
    let rest = filter-none p (low + 1) n (λ x a b. h x (omega arith) (omega arith)) in
    ap₂ (λ b xs. cond b (low ∷ xs) xs) (h low (omega arith) (omega arith)) rest

-- a longer range in which no further number passes
pub filter-longer : (p : ℕ → Bool) (low n m : ℕ) → ((x : ℕ) → low + n ≤ x → p x ≡ false) → filter p (range_with_len low (n + m)) ≡ filter p (range_with_len low n)
filter-longer p low zero m h =
    let same : 0 + m ≡ m = omega arith in
    ap (λ k. filter p (range_with_len low k)) same ∙ filter-none p low m (λ x a b. h x (omega arith))
filter-longer p low (suc n) m h =
    let same : suc n + m ≡ suc (n + m) = omega arith in
    ap (λ k. filter p (range_with_len low k)) same
    ∙ ap (λ xs. cond (p low) (low ∷ xs) xs) (filter-longer p (low + 1) n m (λ x a. h x (omega arith)))

-- a range that begins where the first number passes
pub filter-later : (p : ℕ → Bool) (low n m : ℕ) → ((x : ℕ) → low ≤ x → x < low + n → p x ≡ false) → filter p (range_with_len low (n + m)) ≡ filter p (range_with_len (low + n) m)
filter-later p low zero m h =
    let same : 0 + m ≡ m = omega arith in
    let start : low ≡ low + 0 = omega arith in
    ap₂ (λ a k. filter p (range_with_len a k)) start same
filter-later p low (suc n) m h =
    let same : suc n + m ≡ suc (n + m) = omega arith in
    let start : low + 1 + n ≡ low + suc n = omega arith in
    ap (λ k. filter p (range_with_len low k)) same
    ∙ ap (λ b. cond b (low ∷ filter p (range_with_len (low + 1) (n + m))) (filter p (range_with_len (low + 1) (n + m)))) (h low (omega arith) (omega arith))
    ∙ filter-later p (low + 1) n m (λ x a b. h x (omega arith) (omega arith))
    ∙ ap (λ a. filter p (range_with_len a m)) start

push_cond : (b : Bool) (x : ℕ) (xs : List ℕ) (g : ℕ) → cond b (x ∷ (xs ++ g ∷ [])) (xs ++ g ∷ []) ≡ cond b (x ∷ xs) xs ++ g ∷ []
push_cond true x xs g = refl
push_cond false x xs g = refl

-- one more number at the end
pub filter-push : (p q : ℕ → Bool) (low n g : ℕ) → low ≤ g → g < low + n → ((x : ℕ) → x ≢ g → p x ≡ q x) → p g ≡ false → q g ≡ true → ((x : ℕ) → g < x → x < low + n → p x ≡ false) → filter q (range_with_len low n) ≡ filter p (range_with_len low n) ++ g ∷ []
filter-push p q low zero g a b same old new last = absurd (omega arith)
filter-push p q low (suc n) g a b same old new last =
    elim (low == g) as (λ v. (low == g) ≡ v → filter q (range_with_len low (suc n)) ≡ filter p (range_with_len low (suc n)) ++ g ∷ []) [
      | true ↦ λ e.
          let here : low ≡ g = grind (arith, nat_tests) in
          let none = filter-none p (low + 1) n (λ x c d. last x (omega arith) (omega arith)) in
          let none' = filter-none q (low + 1) n (λ x c d. sym (same x (omega arith)) ∙ last x (omega arith) (omega arith)) in
          ap₂ (λ v xs. cond v (low ∷ xs) xs) (ap q here ∙ new) none'
          ∙ ap (λ x. x ∷ []) here
          ∙ sym (ap₂ (λ v xs. cond v (low ∷ xs) xs ++ g ∷ []) (ap p here ∙ old) none)
      | false ↦ λ e.
          let other : low ≢ g = grind (arith, nat_tests) in
          let rest = filter-push p q (low + 1) n g (omega arith) (omega arith) same old new (λ x c d. last x c (omega arith)) in
          ap₂ (λ v xs. cond v (low ∷ xs) xs) (sym (same low other)) rest
          ∙ push_cond (p low) low (filter p (range_with_len (low + 1) n)) g
    ]
    refl

-- the first number taken off
pub filter-pop : (p q : ℕ → Bool) (low n g : ℕ) → low ≤ g → g < low + n → ((x : ℕ) → low ≤ x → x < low + n → x ≢ g → p x ≡ q x) → p g ≡ true → q g ≡ false → ((x : ℕ) → low ≤ x → x < g → p x ≡ false) → filter p (range_with_len low n) ≡ g ∷ filter q (range_with_len low n)
filter-pop p q low zero g a b same old new first = absurd (omega arith)
filter-pop p q low (suc n) g a b same old new first =
    elim (low == g) as (λ v. (low == g) ≡ v → filter p (range_with_len low (suc n)) ≡ g ∷ filter q (range_with_len low (suc n))) [
      | true ↦ λ e.
          let here : low ≡ g = grind (arith, nat_tests) in
          let rest = filter-agree p q (low + 1) n (λ x c d. same x (omega arith) (omega arith) (omega arith)) in
          ap₂ (λ v xs. cond v (low ∷ xs) xs) (ap p here ∙ old) rest
          ∙ ap₂ (λ x xs. x ∷ xs) here (sym (ap (λ v. cond v (low ∷ filter q (range_with_len (low + 1) n)) (filter q (range_with_len (low + 1) n))) (ap q here ∙ new)))
      | false ↦ λ e.
          let other : low ≢ g = grind (arith, nat_tests) in
          let rest = filter-pop p q (low + 1) n g (omega arith) (omega arith) (λ x c d other'. same x (omega arith) (omega arith) other') old new (λ x c d. first x (omega arith) d) in
          let none = first low (omega arith) (omega arith) in
          ap₂ (λ v xs. cond v (low ∷ xs) xs) none rest
          ∙ ap (λ xs. g ∷ xs) (sym (ap (λ v. cond v (low ∷ filter q (range_with_len (low + 1) n)) (filter q (range_with_len (low + 1) n))) (sym (same low (omega arith) (omega arith) other) ∙ none)))
    ]
    refl

contains_cond : (b : Bool) (y x : ℕ) (ys : List ℕ) → contains (cond b (y ∷ ys) ys) x ≡ ((b && y == x) || contains ys x)
contains_cond true y x ys = refl
contains_cond false y x ys = refl

and_or : (b : Bool) → ((b && true) || false) ≡ b
and_or true = refl
and_or false = refl

or_none : (b c : Bool) → ((b && false) || c) ≡ c
or_none true c = refl
or_none false c = refl

contains-past : (p : ℕ → Bool) (low n x : ℕ) → x < low → contains (filter p (range_with_len low n)) x ≡ false
contains-past p low zero x a = refl
contains-past p low (suc n) x a =
    let other : (low == x) ≡ false = grind (arith, nat_tests) in
    contains_cond (p low) low x (filter p (range_with_len (low + 1) n))
    ∙ ap (λ u. (p low && u) || contains (filter p (range_with_len (low + 1) n)) x) other
    ∙ or_none (p low) (contains (filter p (range_with_len (low + 1) n)) x)
    ∙ contains-past p (low + 1) n x (omega arith)

-- a number is among those that pass where it is in the range and passes
pub contains-filter : (p : ℕ → Bool) (low n x : ℕ) → low ≤ x → x < low + n → contains (filter p (range_with_len low n)) x ≡ p x
contains-filter p low zero x a b = absurd (omega arith)
contains-filter p low (suc n) x a b =
    elim (low == x) as (λ v. (low == x) ≡ v → contains (filter p (range_with_len low (suc n))) x ≡ p x) [
      | true ↦ λ e.
          let here : low ≡ x = grind (arith, nat_tests) in
          let past = contains-past p (low + 1) n x (omega arith) in
          contains_cond (p low) low x (filter p (range_with_len (low + 1) n))
          ∙ ap₂ (λ u v. (p low && u) || v) e past
          ∙ and_or (p low) ∙ ap p here
      | false ↦ λ e.
          let other : low ≢ x = grind (arith, nat_tests) in
          contains_cond (p low) low x (filter p (range_with_len (low + 1) n))
          ∙ ap (λ u. (p low && u) || contains (filter p (range_with_len (low + 1) n)) x) e
          ∙ or_none (p low) (contains (filter p (range_with_len (low + 1) n)) x)
          ∙ contains-filter p (low + 1) n x (omega arith) (omega arith)
    ]
    refl

-- a number outside the range is not among them
pub contains-after : (p : ℕ → Bool) (low n x : ℕ) → low + n ≤ x → contains (filter p (range_with_len low n)) x ≡ false
contains-after p low zero x a = refl
contains-after p low (suc n) x a =
    let other : (low == x) ≡ false = grind (arith, nat_tests) in
    contains_cond (p low) low x (filter p (range_with_len (low + 1) n))
    ∙ ap (λ u. (p low && u) || contains (filter p (range_with_len (low + 1) n)) x) other
    ∙ or_none (p low) (contains (filter p (range_with_len (low + 1) n)) x)
    ∙ contains-after p (low + 1) n x (omega arith)

-- a bit of a word that is shifted
pub bit_at-shifted : (n k i : ℕ) → bit_at (n / 2 ^ k) i ≡ bit_at n (k + i)
bit_at-shifted n k i =
    let parts = div-add-mod' n (2 ^ k) in
    let rest = mod-lt n (pow_pos k) in
    let place : k + i - k ≡ i = omega arith in
    sym (ap (λ m. bit_at m (k + i)) (sym parts) ∙ bit_at_cat_high (n / 2 ^ k) k (n % 2 ^ k) (k + i) rest (omega arith) ∙ ap (bit_at (n / 2 ^ k)) place)

-- a bit of a word that keeps the low bits of a number
pub bit_at-low : (n w i : ℕ) → i < w → bit_at (n % 2 ^ w) i ≡ bit_at n i
bit_at-low n w i within =
    let parts = div-add-mod' n (2 ^ w) in
    sym (bit_at_cat_low (n / 2 ^ w) w (n % 2 ^ w) i within) ∙ ap (λ m. bit_at m i) parts

-- a bit of a word that is shifted up: those that it does not keep are lost
pub bit_at-raised_low : (n k w i : ℕ) → i < w → i < k → bit_at (n * 2 ^ k % 2 ^ w) i ≡ 0
bit_at-raised_low n k w i within below =
    let whole : n * 2 ^ k + 0 ≡ n * 2 ^ k = omega arith in
    bit_at-low (n * 2 ^ k) w i within ∙ ap (λ m. bit_at m i) (sym whole) ∙ bit_at_cat_low n k 0 i below ∙ bit_at-zero i

pub bit_at-raised : (n k w i : ℕ) → i < w → k ≤ i → bit_at (n * 2 ^ k % 2 ^ w) i ≡ bit_at n (i - k)
bit_at-raised n k w i within past =
    let whole : n * 2 ^ k + 0 ≡ n * 2 ^ k = omega arith in
    bit_at-low (n * 2 ^ k) w i within ∙ ap (λ m. bit_at m i) (sym whole) ∙ bit_at_cat_high n k 0 i (pow_pos k) past

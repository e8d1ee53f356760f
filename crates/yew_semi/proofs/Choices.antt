-- The sets of k numbers of a range are the rising lists of k numbers of that range, each once.
use Rattle.std.proofs.Common.{◌≡◌, ◌≢◌, ℕ, zero, suc, ◌+◌, ◌<◌, ◌≤◌, Bool, true, false, cond, ◌&&◌, ◌==◌, List, [], ◌∷◌, map, filter, length, nat_le, refl, ap, ap₂, sym, ◌∙◌, arith}
use Rattle.std.specs.List.{range_with_len, sum_by}
use Rattle.std.proofs.lemmas.Bool.Decides.{nat_tests}
use Rattle.std.proofs.lemmas.List.Sums.{sum_by-cons, sum_by-append}
use Rattle.yew_laws.specs.Order.{is_path, only, occurs}
use Rattle.yew_laws.proofs.Bags.{sum_by-map}
use Rattle.yew_laws.proofs.PathTests.{is_path-is}
use Rattle.yew_semi.specs.GapLaws.{both_second, bool_same}
use Rattle.yew_semi.specs.Gaps.{choices}
use Rattle.yew_semi.specs.SetLaws.{rises_from, rises-parts, rises-made, rises-lower}

-- 1 for true
abbrev pub one_if : Bool → ℕ
one_if b = cond b 1 0

pub sum_by-zero : {X : Type 0} (f : X → ℕ) → ((x : X) → f x ≡ 0) → (xs : List X) → sum_by f xs ≡ 0
sum_by-zero f h [] = refl
sum_by-zero f h (x ∷ xs) = let step = sum_by-cons f x xs in let here = h x in let rest = sum_by-zero f h xs in omega arith

pub sum_by-agree : {X : Type 0} (f g : X → ℕ) → ((x : X) → f x ≡ g x) → (xs : List X) → sum_by f xs ≡ sum_by g xs
sum_by-agree f g h [] = refl
sum_by-agree f g h (x ∷ xs) =
    let a = sum_by-cons f x xs in
    let b = sum_by-cons g x xs in
    let here = h x in
    let rest = sum_by-agree f g h xs in
    omega arith

pub zero_before : (n : ℕ) → 0 + n ≡ n
zero_before n = omega arith

pub zero_after : (n : ℕ) → n + 0 ≡ n
zero_after n = omega arith

-- how often a list with a first number occurs among lists that all have one first number
occurs-cons : (y : ℕ) (ys : List ℕ) (x : ℕ) (ls : List (List ℕ)) → occurs (y ∷ ys) (map (λ l. x ∷ l) ls) ≡ cond (y == x) (occurs ys ls) 0
occurs-cons y ys x ls =
    sum_by-map (only (y ∷ ys)) (λ l. x ∷ l) ls
    ∙ elim (y == x) as (λ b. sum_by (λ l. cond (b && is_path ys l) 1 0) ls ≡ cond b (occurs ys ls) 0)
    [ true ↦ refl | false ↦ sum_by-zero (λ (l : List ℕ). cond false 1 0) (λ l. refl) ls ]

occurs-none : (x : ℕ) (ls : List (List ℕ)) → occurs [] (map (λ l. x ∷ l) ls) ≡ 0
occurs-none x ls = sum_by-map (only []) (λ l. x ∷ l) ls ∙ sum_by-zero (λ (l : List ℕ). only [] (x ∷ l)) (λ l. refl) ls

abbrev pub is_choice : ℕ → ℕ → ℕ → List ℕ → Bool
is_choice k low high xs = length xs == k && rises_from low high xs

pub choice-empty : (k low high : ℕ) → is_choice (suc k) low high [] ≡ false
choice-empty k low high = let other : (0 == suc k) ≡ false = grind (arith, nat_tests) in ap (λ b. b && true) other

-- a list that begins with the least number, and one that does not
choice-first : (k low high : ℕ) (ys : List ℕ) → low ≤ high → is_choice (suc k) low high (low ∷ ys) ≡ is_choice k (low + 1) high ys
choice-first k low high ys h =
    let same : (suc (length ys) == suc k) ≡ (length ys == k) = grind (arith, nat_tests) in
    let from : nat_le low low ≡ true = grind (arith, nat_tests) in
    let within : nat_le low high ≡ true = grind (arith, nat_tests) in
    ap₂ (λ a b. a && b) same (ap₂ (λ a b. a && b && rises_from (low + 1) high ys) from within)

choice-later : (k low high y : ℕ) (ys : List ℕ) → y ≢ low → is_choice k low high (y ∷ ys) ≡ is_choice k (low + 1) high (y ∷ ys)
choice-later k low high y ys other =
    ap (λ b. length (y ∷ ys) == k && b)
    (bool_same (rises_from low high (y ∷ ys)) (rises_from (low + 1) high (y ∷ ys))
    (λ e. let parts = rises-parts low high y ys e in let from = parts.from in rises-made (low + 1) high y ys (omega arith) parts.within parts.later)
    (λ e. rises-lower (low + 1) low high (y ∷ ys) (omega arith) e))

choice-not : (k low high : ℕ) (ys : List ℕ) → is_choice k (low + 1) high (low ∷ ys) ≡ false
choice-not k low high ys =
    bool_same (is_choice k (low + 1) high (low ∷ ys)) false
    (λ e. let parts = rises-parts (low + 1) high low ys (both_second (length (low ∷ ys) == k) (rises_from (low + 1) high (low ∷ ys)) e) in let from = parts.from in absurd (omega arith))
    (λ e. absurd (cc))

choice-past : (k low high y : ℕ) (ys : List ℕ) → high < low → is_choice k low high (y ∷ ys) ≡ false
choice-past k low high y ys h =
    bool_same (is_choice k low high (y ∷ ys)) false
    (λ e. let parts = rises-parts low high y ys (both_second (length (y ∷ ys) == k) (rises_from low high (y ∷ ys)) e) in let from = parts.from in let within = parts.within in absurd (omega arith))
    (λ e. absurd (cc))

-- each list occurs once where it is such a set, and not at all where it is not
pub occurs-choices : (xs : List ℕ) (k low n high : ℕ) → low + n ≡ high + 1 → occurs xs (choices k (range_with_len low n)) ≡ one_if (is_choice k low high xs)
occurs-choices [] zero low n high e = refl
occurs-choices (y ∷ ys) zero low n high e =
    let other : (suc (length ys) == 0) ≡ false = grind (arith, nat_tests) in
    ap (λ b. one_if (b && rises_from low high (y ∷ ys))) (sym other)
occurs-choices [] (suc k) low zero high e = ap one_if (sym (choice-empty k low high))
occurs-choices (y ∷ ys) (suc k) low zero high e = ap one_if (sym (choice-past (suc k) low high y ys (omega arith)))
occurs-choices [] (suc k) low (suc n) high e =
    let both_parts = sum_by-append (only []) (map (λ l. low ∷ l) (choices k (range_with_len (low + 1) n))) (choices (suc k) (range_with_len (low + 1) n)) in
    let front = occurs-none low (choices k (range_with_len (low + 1) n)) in
    let rest = occurs-choices [] (suc k) (low + 1) n high (omega arith) in
    let none = choice-empty k (low + 1) high in
    let none' = choice-empty k low high in
    both_parts ∙ ap₂ (λ (a b : ℕ). a + b) front (rest ∙ ap one_if none) ∙ ap one_if (sym none')
occurs-choices (y ∷ ys) (suc k) low (suc n) high e =
    let both_parts = sum_by-append (only (y ∷ ys)) (map (λ l. low ∷ l) (choices k (range_with_len (low + 1) n))) (choices (suc k) (range_with_len (low + 1) n)) in
    let front = occurs-cons y ys low (choices k (range_with_len (low + 1) n)) in
    let rest = occurs-choices (y ∷ ys) (suc k) (low + 1) n high (omega arith) in
    both_parts ∙ ap₂ (λ (a b : ℕ). a + b) front rest
    ∙ elim (y == low) as (λ b. (y == low) ≡ b → cond b (occurs ys (choices k (range_with_len (low + 1) n))) 0 + one_if (is_choice (suc k) (low + 1) high (y ∷ ys)) ≡ one_if (is_choice (suc k) low high (y ∷ ys))) [
      | true ↦ λ is.
          let same : y ≡ low = grind (arith, nat_tests) in
          let here = occurs-choices ys k (low + 1) n high (omega arith) in
          let none = ap (λ x. one_if (is_choice (suc k) (low + 1) high (x ∷ ys))) same ∙ ap one_if (choice-not (suc k) low high ys) in
          let whole = ap (λ x. one_if (is_choice (suc k) low high (x ∷ ys))) same ∙ ap one_if (choice-first k low high ys (omega arith)) in
          ap₂ (λ (a b : ℕ). a + b) here none ∙ zero_after (one_if (is_choice k (low + 1) high ys)) ∙ sym whole
      | false ↦ λ is.
          let other : y ≢ low = grind (arith, nat_tests) in
          zero_before (one_if (is_choice (suc k) (low + 1) high (y ∷ ys))) ∙ ap one_if (sym (choice-later (suc k) low high y ys other))
    ]
    refl

without_weight : (b : Bool) (xs l : List ℕ) (ls : List (List ℕ)) → only xs l ≡ 0 → occurs xs (cond b (l ∷ ls) ls) ≡ occurs xs ls
without_weight true xs l ls e = sum_by-cons (only xs) l ls ∙ ap (λ n. n + occurs xs ls) e ∙ zero_before (occurs xs ls)
without_weight false xs l ls e = refl

with_test : (p : List ℕ → Bool) (xs l : List ℕ) (ls : List (List ℕ)) → occurs xs (filter p ls) ≡ cond (p xs) (occurs xs ls) 0 → occurs xs (cond (p xs) (l ∷ filter p ls) (filter p ls)) ≡ cond (p xs) (occurs xs (l ∷ ls)) 0
with_test p xs l ls rest =
    elim (p xs) as (λ b. p xs ≡ b → occurs xs (cond b (l ∷ filter p ls) (filter p ls)) ≡ cond b (occurs xs (l ∷ ls)) 0) [
      | true ↦ λ is. sum_by-cons (only xs) l (filter p ls) ∙ ap (λ n. only xs l + n) (rest ∙ ap (λ b. cond b (occurs xs ls) 0) is) ∙ sym (sum_by-cons (only xs) l ls)
      | false ↦ λ is. rest ∙ ap (λ b. cond b (occurs xs ls) 0) is
    ]
    refl

-- how often a list occurs among those that pass
pub occurs-filter : (p : List ℕ → Bool) (xs : List ℕ) (ls : List (List ℕ)) → occurs xs (filter p ls) ≡ cond (p xs) (occurs xs ls) 0
occurs-filter p xs [] = elim (p xs) as (λ b. ◌≡◌ {A = ℕ} 0 (cond b 0 0)) [ true ↦ refl | false ↦ refl ]
occurs-filter p xs (l ∷ ls) =
    let rest = occurs-filter p xs ls in
    let whole = sum_by-cons (only xs) l ls in
    elim (is_path xs l) as (λ b. is_path xs l ≡ b → occurs xs (filter p (l ∷ ls)) ≡ cond (p xs) (occurs xs (l ∷ ls)) 0) [
      | true ↦ λ is. let same : xs ≡ l = is_path-is xs l is in ap (λ b. occurs xs (cond b (l ∷ filter p ls) (filter p ls))) (sym (ap p same)) ∙ with_test p xs l ls rest
      | false ↦ λ is.
          let none : only xs l ≡ 0 = ap one_if is in
          let kept : occurs xs (filter p (l ∷ ls)) ≡ occurs xs (filter p ls) = without_weight (p l) xs l (filter p ls) none in
          kept ∙ rest ∙ ap (λ n. cond (p xs) n 0) (sym (whole ∙ ap (λ n. n + occurs xs ls) none ∙ zero_before (occurs xs ls)))
    ]
    refl

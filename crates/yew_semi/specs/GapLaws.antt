-- Sets of gaps as facts: what the tests of ranges, lists and sets say.
use Rattle.std.proofs.Common.{◌≡◌, ◌≢◌, ℕ, zero, suc, ◌+◌, ◌-◌, ◌<◌, ◌≤◌, Bool, true, false, not, ◌&&◌, ◌||◌, ◌==◌, nat_lt, List, [], ◌∷◌, ◌++◌, ◌⊎◌, inl, inr, refl, ap, sym, ◌∙◌, arith}
use Rattle.std.proofs.lemmas.Bool.Decides.{nat_tests}
use Rattle.std.specs.List.{list_all, list_any, range_with_len}
use Rattle.yew_laws.specs.Sets.{contains}
use Rattle.yew_semi.specs.Gaps.{is_sum_outside, is_gap_set}
use Rattle.yew_semi.specs.SemigroupTree.{is_sum_of_members, is_generator}

pub both_first : (a b : Bool) → (a && b) ≡ true → a ≡ true
both_first true b e = refl
both_first false b e = absurd (cc)

pub both_second : (a b : Bool) → (a && b) ≡ true → b ≡ true
both_second true b e = e
both_second false b e = absurd (cc)

pub both : (a b : Bool) → a ≡ true → b ≡ true → (a && b) ≡ true
both true b e f = f
both false b e f = absurd (cc)

pub not_is : (a : Bool) → not a ≡ true → a ≡ false
not_is true e = absurd (cc)
not_is false e = refl

pub not_from : (a : Bool) → a ≡ false → not a ≡ true
not_from true e = absurd (cc)
not_from false e = refl

pub bool_same : (a b : Bool) → (a ≡ true → b ≡ true) → (b ≡ true → a ≡ true) → a ≡ b
bool_same true b f g = sym (f refl)
bool_same false true f g = g refl
bool_same false false f g = refl

-- a place in a range that passes a test
pub record Passes (f : ℕ → Bool) (low n : ℕ) : Type 0 where
  pub at : ℕ
  pub from : low ≤ at
  pub below : at < low + n
  pub is : f at ≡ true

pub any-passes : (f : ℕ → Bool) (low n : ℕ) → list_any f (range_with_len low n) ≡ true → Passes f low n
any-passes f low zero e = absurd (cc)
any-passes f low (suc n) e =
    elim (f low) as (λ b. f low ≡ b → (b || list_any f (range_with_len (low + 1) n)) ≡ true → Passes f low (suc n)) [
      | true ↦ λ is h. record { at = low; from = omega arith; below = omega arith; is = is }
      | false ↦ λ is h.
          let later = any-passes f (low + 1) n h in
          record { at = later.at; from = omega (arith, later.from); below = omega (arith, later.below); is = later.is }
    ]
    refl e

pub any-from_pass : (f : ℕ → Bool) (low n k : ℕ) → low ≤ k → k < low + n → f k ≡ true → list_any f (range_with_len low n) ≡ true
any-from_pass f low zero k from below e = absurd (omega arith)
any-from_pass f low (suc n) k from below e =
    elim (f low) as (λ b. f low ≡ b → (b || list_any f (range_with_len (low + 1) n)) ≡ true) [
      | true ↦ λ is. refl
      | false ↦ λ is.
          let other : k ≢ low = λ same. absurd (cc) in
          any-from_pass f (low + 1) n k (omega arith) (omega arith) e
    ]
    refl

pub all-at : (p : ℕ → Bool) (xs : List ℕ) (x : ℕ) → list_all p xs ≡ true → contains xs x ≡ true → p x ≡ true
all-at p [] x e h = absurd (cc)
all-at p (y ∷ ys) x e h =
    elim (y == x) as (λ b. (y == x) ≡ b → (b || contains ys x) ≡ true → p x ≡ true) [
      | true ↦ λ is g. let same : y ≡ x = grind (arith, nat_tests) in ap p (sym same) ∙ both_first (p y) (list_all p ys) e
      | false ↦ λ is g. all-at p ys x (both_second (p y) (list_all p ys) e) g
    ]
    refl h

same_test : (x : ℕ) → (x == x) ≡ true
same_test x = grind (arith, nat_tests)

pub contains-head : (y : ℕ) (ys : List ℕ) → contains (y ∷ ys) y ≡ true
contains-head y ys = ap (λ b. b || contains ys y) (same_test y)

or_true : (a : Bool) → (a || true) ≡ true
or_true true = refl
or_true false = refl

pub contains-tail : (y : ℕ) (ys : List ℕ) (x : ℕ) → contains ys x ≡ true → contains (y ∷ ys) x ≡ true
contains-tail y ys x e = ap (λ b. (y == x) || b) e ∙ or_true (y == x)

pub all-from : (p : ℕ → Bool) (xs : List ℕ) → ((x : ℕ) → contains xs x ≡ true → p x ≡ true) → list_all p xs ≡ true
all-from p [] h = refl
all-from p (y ∷ ys) h = both (p y) (list_all p ys) (h y (contains-head y ys)) (all-from p ys (λ x e. h x (contains-tail y ys x e)))

or_assoc : (a b c : Bool) → ((a || b) || c) ≡ (a || (b || c))
or_assoc true b c = refl
or_assoc false b c = refl

or_false : (a : Bool) → (a || false) ≡ a
or_false true = refl
or_false false = refl

pub contains-snoc : (xs : List ℕ) (g x : ℕ) → contains (xs ++ g ∷ []) x ≡ (contains xs x || (g == x))
contains-snoc [] g x = or_false (g == x)
contains-snoc (y ∷ ys) g x = ap (λ b. (y == x) || b) (contains-snoc ys g x) ∙ sym (or_assoc (y == x) (contains ys x) (g == x))

pub snoc-old : (xs : List ℕ) (g x : ℕ) → contains xs x ≡ true → contains (xs ++ g ∷ []) x ≡ true
snoc-old xs g x e = contains-snoc xs g x ∙ ap (λ b. b || (g == x)) e

pub snoc-new : (xs : List ℕ) (g : ℕ) → contains (xs ++ g ∷ []) g ≡ true
snoc-new xs g = contains-snoc xs g g ∙ ap (λ b. contains xs g || b) (same_test g) ∙ or_true (contains xs g)

pub snoc-kept : (xs : List ℕ) (g x : ℕ) → x ≢ g → contains (xs ++ g ∷ []) x ≡ contains xs x
snoc-kept xs g x other =
    let not_it : (g == x) ≡ false = grind (arith, nat_tests) in
    contains-snoc xs g x ∙ ap (λ b. contains xs x || b) not_it ∙ or_false (contains xs x)

pub snoc-cases : (xs : List ℕ) (g x : ℕ) → contains (xs ++ g ∷ []) x ≡ true → (x ≡ g) ⊎ (contains xs x ≡ true)
snoc-cases xs g x e =
    elim (g == x) as (λ b. (g == x) ≡ b → (x ≡ g) ⊎ (contains xs x ≡ true)) [
      | true ↦ λ is. inl (grind (arith, nat_tests))
      | false ↦ λ is. let other : x ≢ g = grind (arith, nat_tests) in inr (sym (snoc-kept xs g x other) ∙ e)
    ]
    refl

pub snoc-outside : (xs : List ℕ) (g x : ℕ) → contains (xs ++ g ∷ []) x ≡ false → (x ≢ g) × (contains xs x ≡ false)
snoc-outside xs g x e =
    let other : x ≢ g = λ same. let there : contains (xs ++ g ∷ []) x ≡ true = ap (contains (xs ++ g ∷ [])) same ∙ snoc-new xs g in absurd (cc) in
    (other, sym (snoc-kept xs g x other) ∙ e)

-- no member of the set is a sum of two numbers outside
pub record IsClosed (xs : List ℕ) : Type 0 where
  pub no_sum : (x a : ℕ) → contains xs x ≡ true → a ≤ x → contains xs a ≡ false → contains xs (x - a) ≡ false → ⊥

pub closed-from_test : (xs : List ℕ) → is_gap_set xs ≡ true → IsClosed xs
closed-from_test xs e = record {
  no_sum = λ x a inside within one other.
      let none = not_is (is_sum_outside xs x) (all-at (λ m. not (is_sum_outside xs m)) xs x e inside) in
      let some = any-from_pass (λ b. not (contains xs b) && not (contains xs (x - b))) 0 (x + 1) a (omega arith) (omega arith)
      (both (not (contains xs a)) (not (contains xs (x - a))) (not_from (contains xs a) one) (not_from (contains xs (x - a)) other)) in
      absurd (cc);
}

pub test-from_closed : (xs : List ℕ) → IsClosed xs → is_gap_set xs ≡ true
test-from_closed xs closed =
    all-from (λ m. not (is_sum_outside xs m)) xs
    (λ x inside.
    elim (is_sum_outside xs x) as (λ b. is_sum_outside xs x ≡ b → not b ≡ true) [
      | true ↦ λ is.
          let some = any-passes (λ b. not (contains xs b) && not (contains xs (x - b))) 0 (x + 1) is in
          let one = not_is (contains xs some.at) (both_first (not (contains xs some.at)) (not (contains xs (x - some.at))) some.is) in
          let other = not_is (contains xs (x - some.at)) (both_second (not (contains xs some.at)) (not (contains xs (x - some.at))) some.is) in
          absurd (closed.no_sum x some.at inside (omega (arith, some.below)) one other)
      | false ↦ λ is. refl
    ]
    refl)

-- a minimal generator above every gap
pub record IsMinimal (xs : List ℕ) (g : ℕ) : Type 0 where
  pub positive : 0 < g
  pub above : (x : ℕ) → contains xs x ≡ true → x < g
  pub no_sum : (a : ℕ) → 0 < a → a < g → contains xs a ≡ false → contains xs (g - a) ≡ false → ⊥

pub minimal-from_test : (xs : List ℕ) (g : ℕ) → is_generator xs g ≡ true → IsMinimal xs g
minimal-from_test xs g e =
    let low = both_first (nat_lt 0 g && list_all (λ y. nat_lt y g) xs) (not (is_sum_of_members xs g)) e in
    let none = not_is (is_sum_of_members xs g) (both_second (nat_lt 0 g && list_all (λ y. nat_lt y g) xs) (not (is_sum_of_members xs g)) e) in
    let first = both_first (nat_lt 0 g) (list_all (λ y. nat_lt y g) xs) low in
    let all = both_second (nat_lt 0 g) (list_all (λ y. nat_lt y g) xs) low in
    record {
      positive = grind (arith, nat_tests);
      above = λ x inside. let less : nat_lt x g ≡ true = all-at (λ y. nat_lt y g) xs x all inside in grind (arith, nat_tests);
      no_sum = λ a from below one other.
          let some = any-from_pass (λ b. not (contains xs b) && not (contains xs (g - b))) 1 (g - 1) a (omega arith) (omega arith)
          (both (not (contains xs a)) (not (contains xs (g - a))) (not_from (contains xs a) one) (not_from (contains xs (g - a)) other)) in
          absurd (cc);
    }

pub test-from_minimal : (xs : List ℕ) (g : ℕ) → IsMinimal xs g → is_generator xs g ≡ true
test-from_minimal xs g minimal =
    both (nat_lt 0 g && list_all (λ y. nat_lt y g) xs) (not (is_sum_of_members xs g))
    (both (nat_lt 0 g) (list_all (λ y. nat_lt y g) xs)
    (let positive = minimal.positive in grind (arith, nat_tests))
    (all-from (λ y. nat_lt y g) xs (λ x inside. let less = minimal.above x inside in grind (arith, nat_tests))))
    (elim (is_sum_of_members xs g) as (λ b. is_sum_of_members xs g ≡ b → not b ≡ true) [
      | true ↦ λ is.
          let some = any-passes (λ b. not (contains xs b) && not (contains xs (g - b))) 1 (g - 1) is in
          let one = not_is (contains xs some.at) (both_first (not (contains xs some.at)) (not (contains xs (g - some.at))) some.is) in
          let other = not_is (contains xs (g - some.at)) (both_second (not (contains xs some.at)) (not (contains xs (g - some.at))) some.is) in
          absurd (minimal.no_sum some.at (omega (arith, some.from)) (omega (arith, some.from, some.below)) one other)
      | false ↦ λ is. refl
    ]
    refl)

-- The tests on paths.
use Rattle.std.proofs.Common.{◌≡◌, ◌≢◌, ℕ, suc, ◌<◌, ◌≤◌, length, List, [], ◌∷◌, ◌++◌, Bool, true, false, ◌&&◌, ◌||◌, ◌==◌, nat_lt, refl, ap, ap₂, sym, ◌∙◌, arith}
use Rattle.std.proofs.lemmas.Bool.Decides.{nat_tests}
use Rattle.yew_laws.specs.Order.{is_path, comes_before, lies_below, is_child, parent_of}

pub nat_same : (k : ℕ) → (k == k) ≡ true
nat_same k = grind (arith, nat_tests)

pub suc_not_zero : (k : ℕ) → (suc k == 0) ≡ false
suc_not_zero k = grind (arith, nat_tests)

both-first : (a b : Bool) → (a && b) ≡ true → a ≡ true
both-first true b e = refl
both-first false b e = absurd (cc)

both-second : (a b : Bool) → (a && b) ≡ true → b ≡ true
both-second true b e = e
both-second false b e = absurd (cc)

pub nat-is : (j k : ℕ) → (j == k) ≡ true → j ≡ k
nat-is j k e = grind (arith, nat_tests)

pub is_path-same : (p : List ℕ) → is_path p p ≡ true
is_path-same [] = refl
is_path-same (k ∷ p) = ap₂ (λ a b. a && b) (nat_same k) (is_path-same p)

pub is_path-is : (p q : List ℕ) → is_path p q ≡ true → p ≡ q
is_path-is [] [] e = refl
is_path-is [] (k ∷ q) e = absurd (cc)
is_path-is (j ∷ p) [] e = absurd (cc)
is_path-is (j ∷ p) (k ∷ q) e =
    ap₂ (λ (n : ℕ) (ns : List ℕ). n ∷ ns) (nat-is j k (both-first (j == k) (is_path p q) e)) (is_path-is p q (both-second (j == k) (is_path p q) e))

nat_differs : (i j : ℕ) → i ≢ j → (i == j) ≡ false
nat_differs i j ne =
    elim (i == j) as (λ b. (i == j) ≡ b → b ≡ false) [ true ↦ λ e. absurd (ne (nat-is i j e)) | false ↦ λ e. refl ] refl

nat_below : (i j : ℕ) → i < j → nat_lt i j ≡ true
nat_below i j h = grind (arith, nat_tests)

and_no : (a : Bool) → (a && false) ≡ false
and_no true = refl
and_no false = refl

or_yes : (a : Bool) → (a || true) ≡ true
or_yes true = refl
or_yes false = refl

pub below-itself : (path : List ℕ) (i : ℕ) (r : List ℕ) → lies_below path (path ++ i ∷ r) ≡ true
below-itself [] i r = refl
below-itself (k ∷ path) i r = ap₂ (λ a b. a && b) (nat_same k) (below-itself path i r)

pub not-below-up : (path r : List ℕ) → lies_below (path ++ r) path ≡ false
not-below-up [] [] = refl
not-below-up [] (k ∷ r) = refl
not-below-up (k ∷ path) r = ap (λ b. (k == k) && b) (not-below-up path r) ∙ and_no (k == k)

pub apart-below : (path : List ℕ) (i : ℕ) (r : List ℕ) (j : ℕ) (s : List ℕ) → i ≢ j → lies_below (path ++ i ∷ r) (path ++ j ∷ s) ≡ false
apart-below [] i r j s ne = ap (λ b. b && lies_below r s) (nat_differs i j ne)
apart-below (k ∷ path) i r j s ne = ap (λ b. (k == k) && b) (apart-below path i r j s ne) ∙ and_no (k == k)

pub apart-child : (path : List ℕ) (i : ℕ) (r : List ℕ) (j : ℕ) (s : List ℕ) → i ≢ j → is_child (path ++ i ∷ r) (path ++ j ∷ s) ≡ false
apart-child [] i r j s ne = ap (λ b. b && is_child r s) (nat_differs i j ne)
apart-child (k ∷ path) i r j s ne = ap (λ b. (k == k) && b) (apart-child path i r j s ne) ∙ and_no (k == k)

pub apart-path : (path : List ℕ) (i : ℕ) (r : List ℕ) (j : ℕ) (s : List ℕ) → i ≢ j → is_path (path ++ i ∷ r) (path ++ j ∷ s) ≡ false
apart-path [] i r j s ne = ap (λ b. b && is_path r s) (nat_differs i j ne)
apart-path (k ∷ path) i r j s ne = ap (λ b. (k == k) && b) (apart-path path i r j s ne) ∙ and_no (k == k)

pub is_path-not : (p q : List ℕ) → is_path p q ≡ false → p ≢ q
is_path-not p q told_apart e = let k : true ≡ false = sym (is_path-same p) ∙ ap (is_path p) e ∙ told_apart in cc

pub is_child-length : (p q : List ℕ) → is_child p q ≡ true → length q ≡ suc (length p)
is_child-length [] [] e = absurd (cc)
is_child-length [] (k ∷ []) e = refl
is_child-length [] (j ∷ k ∷ q) e = absurd (cc)
is_child-length (j ∷ p) [] e = absurd (cc)
is_child-length (j ∷ p) (k ∷ q) e = ap suc (is_child-length p q (both-second (j == k) (is_child p q) e))

pub not_child-long : (p q : List ℕ) → length q ≤ length p → is_child p q ≡ false
not_child-long p q long =
    elim (is_child p q) as (λ b. is_child p q ≡ b → b ≡ false) [ true ↦ λ e. let n = is_child-length p q e in absurd (omega (arith, n, long)) | false ↦ λ e. refl ] refl

pub before-itself : (path : List ℕ) (i : ℕ) (r : List ℕ) → comes_before path (path ++ i ∷ r) ≡ true
before-itself [] i r = refl
before-itself (k ∷ path) i r =
    ap (λ b. nat_lt k k || b) (ap₂ (λ a b. a && b) (nat_same k) (before-itself path i r)) ∙ or_yes (nat_lt k k)

pub before-siblings : (path : List ℕ) (i : ℕ) (r : List ℕ) (j : ℕ) (s : List ℕ) → i < j → comes_before (path ++ i ∷ r) (path ++ j ∷ s) ≡ true
before-siblings [] i r j s h = ap (λ b. b || (i == j && comes_before r s)) (nat_below i j h)
before-siblings (k ∷ path) i r j s h =
    ap (λ b. nat_lt k k || b) (ap₂ (λ a b. a && b) (nat_same k) (before-siblings path i r j s h)) ∙ or_yes (nat_lt k k)

pub parent_of-push : (path : List ℕ) (k : ℕ) → parent_of (path ++ k ∷ []) ≡ path
parent_of-push [] k = refl
parent_of-push (j ∷ []) k = refl
parent_of-push (j ∷ i ∷ path) k = ap (λ p. j ∷ p) (parent_of-push (i ∷ path) k)

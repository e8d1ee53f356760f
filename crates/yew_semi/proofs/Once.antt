-- The nodes of the semigroup tree at depth k are the sets of gaps of genus k, each once.
use Rattle.std.proofs.Common.{◌≡◌, ◌≢◌, ℕ, zero, suc, ◌+◌, ◌-◌, ◌*◌, ◌<◌, ◌≤◌, Bool, true, false, cond, ◌&&◌, ◌==◌, List, [], ◌∷◌, ◌++◌, map, filter, length, nat_le, nat_lt, if◌then◌else◌, refl, ap, ap₂, sym, subst, ◌∙◌, arith}
use Rattle.std.specs.List.{AllByRecursion, range_with_len, sum_by}
use Rattle.std.proofs.lemmas.Bool.Decides.{nat_tests}
use Rattle.std.proofs.lemmas.List.{length_push}
use Rattle.std.proofs.lemmas.List.Sums.{sum_by-cons}
use Rattle.yew_kinds.specs.DepthCounts.{members_at, saturated, depth_counts}
use Rattle.yew_laws.specs.Bag.{SameBag}
use Rattle.yew_laws.specs.Order.{is_path, only, occurs}
use Rattle.yew_laws.specs.SearchTree.{preorder}
use Rattle.yew_laws.specs.Tree.{Member}
use Rattle.yew_laws.proofs.Bags.{sum_by-map, sum_by-flat_map, same-occurs}
use Rattle.yew_laws.proofs.PathTests.{is_path-is}
use Rattle.yew_semi.proofs.Choices.{one_if, is_choice, choice-empty, occurs-choices, occurs-filter, sum_by-zero, sum_by-agree, zero_before, zero_after}
use Rattle.yew_semi.proofs.Levels.{level, level-more, all-flat_map, nodes_at-tree}
use Rattle.yew_semi.specs.Depth.{nodes_at}
use Rattle.yew_semi.specs.GapLaws.{both_first, both_second, both, bool_same, closed-from_test, test-from_closed, minimal-from_test, test-from_minimal}
use Rattle.yew_semi.specs.Gaps.{is_gap_set, choices, gap_sets, semigroups_of_genus}
use Rattle.yew_semi.specs.SemigroupLaws.{Known, known-without, known-front, known-root, generator-bound, children-all, semigroups-ranked, semigroup-from, within-bound}
use Rattle.yew_semi.specs.SemigroupTree.{is_generator, generators_above, without, children_of, semigroup_tree}
use Rattle.yew_semi.specs.SetLaws.{rises_from, lt_test, lt_is, rises-below, rises-at}

-- a rising list of k numbers from 1 to 2k - 1 that is a set of gaps
abbrev IsCounted : ℕ → List ℕ → Bool
IsCounted k xs = is_gap_set xs && is_choice k 1 (2 * k - 1) xs

known-from_counted : (k : ℕ) (xs : List ℕ) → IsCounted k xs ≡ true → Known xs × (length xs ≡ k)
known-from_counted k xs e =
    let gaps = both_first (is_gap_set xs) (is_choice k 1 (2 * k - 1) xs) e in
    let choice = both_second (is_gap_set xs) (is_choice k 1 (2 * k - 1) xs) e in
    let test = both_first (length xs == k) (rises_from 1 (2 * k - 1) xs) choice in
    let long : length xs ≡ k = grind (arith, nat_tests) in
    let rises = both_second (length xs == k) (rises_from 1 (2 * k - 1) xs) choice in
    (record { closed = closed-from_test xs gaps; rises = subst (λ n. rises_from 1 (2 * n - 1) xs ≡ true) (sym long) rises }, long)

counted-from_known : (k : ℕ) (xs : List ℕ) → Known xs → length xs ≡ k → IsCounted k xs ≡ true
counted-from_known k xs known long =
    let test : (length xs == k) ≡ true = grind (arith, nat_tests) in
    both (is_gap_set xs) (is_choice k 1 (2 * k - 1) xs) (test-from_closed xs known.closed)
    (both (length xs == k) (rises_from 1 (2 * k - 1) xs) test (subst (λ n. rises_from 1 (2 * n - 1) xs ≡ true) long known.rises))

-- a list without its last number
record Last (xs : List ℕ) : Type 0 where
  pub front : List ℕ
  pub last : ℕ
  pub is : xs ≡ front ++ last ∷ []

last_of : (y : ℕ) (ys : List ℕ) → Last (y ∷ ys)
last_of y [] = record { front = []; last = y; is = refl }
last_of y (z ∷ zs) = let rest = last_of z zs in record { front = y ∷ rest.front; last = rest.last; is = ap (λ xs. y ∷ xs) rest.is }

and_none : (a : Bool) → (a && false) ≡ false
and_none true = refl
and_none false = refl

and_true : (a : Bool) → (a && true) ≡ a
and_true true = refl
and_true false = refl

and_assoc : (a b c : Bool) → (a && (b && c)) ≡ ((a && b) && c)
and_assoc true b c = refl
and_assoc false b c = refl

cond_zero : (b : Bool) → ◌≡◌ {A = ℕ} (cond b 0 0) 0
cond_zero true = refl
cond_zero false = refl

-- what one more number adds to a sum over those that pass
counted-filter : (b : Bool) (f : ℕ → ℕ) (x : ℕ) (xs : List ℕ) → sum_by f (cond b (x ∷ xs) xs) ≡ cond b (f x) 0 + sum_by f xs
counted-filter true f x xs = sum_by-cons f x xs
counted-filter false f x xs = sym (zero_before (sum_by f xs))

is_path-snoc : (xs ys : List ℕ) (g h : ℕ) → is_path (xs ++ g ∷ []) (ys ++ h ∷ []) ≡ (is_path xs ys && g == h)
is_path-snoc [] [] g h = elim (g == h) as (λ b. (b && true) ≡ b) [ true ↦ refl | false ↦ refl ]
is_path-snoc [] (y ∷ []) g h = and_none (g == y)
is_path-snoc [] (y ∷ z ∷ zs) g h = and_none (g == y)
is_path-snoc (x ∷ []) [] g h = and_none (x == h)
is_path-snoc (x ∷ z ∷ zs) [] g h = and_none (x == h)
is_path-snoc (x ∷ xs) (y ∷ ys) g h = ap (λ b. x == y && b) (is_path-snoc xs ys g h) ∙ and_assoc (x == y) (is_path xs ys) (g == h)

-- how often a number occurs among the numbers of a range that pass
abbrev same_one : ℕ → ℕ → ℕ
same_one g h = one_if (g == h)

occurs-range : (p : ℕ → Bool) (g low n : ℕ) → sum_by (same_one g) (filter p (range_with_len low n)) ≡ one_if (p g && (nat_le low g && nat_lt g (low + n)))
occurs-range p g low zero =
    let none : (nat_le low g && nat_lt g (low + 0)) ≡ false = bool_same (nat_le low g && nat_lt g (low + 0)) false
    (λ e. let a = both_first (nat_le low g) (nat_lt g (low + 0)) e in let b = both_second (nat_le low g) (nat_lt g (low + 0)) e in let a' : low ≤ g = grind (arith, nat_tests) in let b' = lt_is g (low + 0) b in absurd (omega arith))
    (λ e. absurd (cc)) in
    sym (ap (λ b. one_if (p g && b)) none ∙ ap one_if (and_none (p g)))
occurs-range p g low (suc n) =
    let rest = occurs-range p g (low + 1) n in
    elim (g == low) as (λ b. (g == low) ≡ b → sum_by (same_one g) (filter p (range_with_len low (suc n))) ≡ one_if (p g && (nat_le low g && nat_lt g (low + suc n)))) [
      | true ↦ λ is.
          let same : low ≡ g = grind (arith, nat_tests) in
          let none : (nat_le (low + 1) g && nat_lt g (low + 1 + n)) ≡ false = bool_same (nat_le (low + 1) g && nat_lt g (low + 1 + n)) false
          (λ e. let a = both_first (nat_le (low + 1) g) (nat_lt g (low + 1 + n)) e in let a' : low + 1 ≤ g = grind (arith, nat_tests) in absurd (omega arith))
          (λ e. absurd (cc)) in
          let rest_none = rest ∙ ap (λ b. one_if (p g && b)) none ∙ ap one_if (and_none (p g)) in
          let here : (nat_le low g && nat_lt g (low + suc n)) ≡ true = both (nat_le low g) (nat_lt g (low + suc n)) (grind (arith, nat_tests)) (lt_test g (low + suc n) (omega arith)) in
          counted-filter (p low) (same_one g) low (filter p (range_with_len (low + 1) n))
          ∙ ap₂ (λ (a b : ℕ). a + b) (ap (λ b. cond (p low) (one_if b) 0) is ∙ ap (λ x. cond (p x) 1 0) same) rest_none
          ∙ zero_after (one_if (p g))
          ∙ sym (ap (λ b. one_if (p g && b)) here ∙ ap one_if (and_true (p g)))
      | false ↦ λ is.
          let other : g ≢ low = grind (arith, nat_tests) in
          let step : (nat_le (low + 1) g && nat_lt g (low + 1 + n)) ≡ (nat_le low g && nat_lt g (low + suc n)) =
          bool_same (nat_le (low + 1) g && nat_lt g (low + 1 + n)) (nat_le low g && nat_lt g (low + suc n))
          (λ e. let a = both_first (nat_le (low + 1) g) (nat_lt g (low + 1 + n)) e in let b = lt_is g (low + 1 + n) (both_second (nat_le (low + 1) g) (nat_lt g (low + 1 + n)) e) in let a' : low + 1 ≤ g = grind (arith, nat_tests) in
          both (nat_le low g) (nat_lt g (low + suc n)) (grind (arith, nat_tests)) (lt_test g (low + suc n) (omega arith)))
          (λ e. let a = both_first (nat_le low g) (nat_lt g (low + suc n)) e in let b = lt_is g (low + suc n) (both_second (nat_le low g) (nat_lt g (low + suc n)) e) in let a' : low ≤ g = grind (arith, nat_tests) in
          both (nat_le (low + 1) g) (nat_lt g (low + 1 + n)) (let more : low + 1 ≤ g = omega arith in grind (arith, nat_tests)) (lt_test g (low + 1 + n) (omega arith))) in
          counted-filter (p low) (same_one g) low (filter p (range_with_len (low + 1) n))
          ∙ ap₂ (λ (a b : ℕ). a + b) (ap (λ b. cond (p low) (one_if b) 0) is ∙ cond_zero (p low)) rest
          ∙ zero_before (one_if (p g && (nat_le (low + 1) g && nat_lt g (low + 1 + n))))
          ∙ ap (λ b. one_if (p g && b)) step
    ]
    refl

nonempty : (m : List ℕ) (h : ℕ) → only [] (without m h) ≡ 0
nonempty [] h = refl
nonempty (x ∷ xs) h = refl

from_zero : (g n : ℕ) → (nat_le 0 g && nat_lt g (0 + n)) ≡ nat_lt g n
from_zero g n =
    let first : nat_le 0 g ≡ true = grind (arith, nat_tests) in
    let same : 0 + n ≡ n = omega arith in
    ap₂ (λ a m. a && nat_lt g m) first same

times_one : (n : ℕ) → n ≡ 1 * n
times_one n = omega arith

times_zero : (n : ℕ) → 0 ≡ 0 * n
times_zero n = omega arith

times_if : (a b : Bool) → one_if a * one_if b ≡ one_if (a && b)
times_if true b = sym (times_one (one_if b))
times_if false b = sym (times_zero (one_if b))

if_and : (a b : Bool) → cond a (one_if b) 0 ≡ one_if (a && b)
if_and true b = refl
if_and false b = refl

sum_by-times : (f : List ℕ → ℕ) (c : ℕ) (xs : List (List ℕ)) → sum_by (λ x. f x * c) xs ≡ sum_by f xs * c
sum_by-times f c [] = times_zero c
sum_by-times f c (x ∷ xs) =
    let rest = sum_by-times f c xs in
    let a = sum_by-cons (λ y. f y * c) x xs in
    let b = ap (λ n. n * c) (sum_by-cons f x xs) in
    omega arith

sum_by-agree_on : {X : Type 0} (f g : X → ℕ) (Q : X → Type 0) → ((x : X) → Q x → f x ≡ g x) → (xs : List X) → AllByRecursion Q xs → sum_by f xs ≡ sum_by g xs
sum_by-agree_on f g Q h [] q = refl
sum_by-agree_on f g Q h (x ∷ xs) q =
    let a = sum_by-cons f x xs in
    let b = sum_by-cons g x xs in
    let here = h x q.0 in
    let rest = sum_by-agree_on f g Q h xs q.1 in
    omega arith

-- how often a list occurs among the children of a node
occurs-children : (genus k : ℕ) (zs : List ℕ) (g : ℕ) (m : List ℕ) → k < genus → length m ≡ k →
    occurs (zs ++ g ∷ []) (children_of genus m) ≡ only zs m * one_if (is_generator zs g && nat_lt g (2 * length zs + 2))
occurs-children genus k zs g m few long =
    let opens : nat_lt (length m) genus ≡ true = lt_test (length m) genus (omega arith) in
    let n = 2 * length m + 2 in
    ap (λ b. occurs (zs ++ g ∷ []) (if b then map (without m) (generators_above m) else [])) opens
    ∙ sum_by-map (only (zs ++ g ∷ [])) (without m) (generators_above m)
    ∙ sum_by-agree (λ h. only (zs ++ g ∷ []) (without m h)) (λ h. one_if (is_path zs m && g == h)) (λ h. ap one_if (is_path-snoc zs m g h)) (generators_above m)
    ∙ elim (is_path zs m) as (λ b. is_path zs m ≡ b → sum_by (λ h. one_if (b && g == h)) (generators_above m) ≡ one_if b * one_if (is_generator zs g && nat_lt g (2 * length zs + 2))) [
      | true ↦ λ is.
          let same : m ≡ zs = sym (is_path-is zs m is) in
          occurs-range (is_generator m) g 0 n
          ∙ ap (λ x. one_if (is_generator x g && (nat_le 0 g && nat_lt g (0 + (2 * length x + 2))))) same
          ∙ ap (λ b. one_if (is_generator zs g && b)) (from_zero g (2 * length zs + 2))
          ∙ times_one (one_if (is_generator zs g && nat_lt g (2 * length zs + 2)))
      | false ↦ λ is. sum_by-zero (λ (h : ℕ). one_if (false && g == h)) (λ h. refl) (generators_above m) ∙ times_zero (one_if (is_generator zs g && nat_lt g (2 * length zs + 2)))
    ]
    refl

-- a set of gaps of genus k + 1 is one of genus k without a minimal generator above the Frobenius number
counted-snoc : (k : ℕ) (zs : List ℕ) (g : ℕ) → (IsCounted k zs && (is_generator zs g && nat_lt g (2 * length zs + 2))) ≡ IsCounted (suc k) (zs ++ g ∷ [])
counted-snoc k zs g =
    bool_same (IsCounted k zs && (is_generator zs g && nat_lt g (2 * length zs + 2))) (IsCounted (suc k) (zs ++ g ∷ []))
    (λ e.
    let old = known-from_counted k zs (both_first (IsCounted k zs) (is_generator zs g && nat_lt g (2 * length zs + 2)) e) in
    let test = both_first (is_generator zs g) (nat_lt g (2 * length zs + 2)) (both_second (IsCounted k zs) (is_generator zs g && nat_lt g (2 * length zs + 2)) e) in
    let longer = length_push zs g in
    let long = old.1 in
    counted-from_known (suc k) (zs ++ g ∷ []) (known-without zs g old.0 (minimal-from_test zs g test)) (omega arith))
    (λ e.
    let new = known-from_counted (suc k) (zs ++ g ∷ []) e in
    let old = known-front zs g new.0 in
    let longer = length_push zs g in
    let long = new.1 in
    let most = generator-bound zs g old.0 old.1 in
    both (IsCounted k zs) (is_generator zs g && nat_lt g (2 * length zs + 2)) (counted-from_known k zs old.0 (omega arith))
    (both (is_generator zs g) (nat_lt g (2 * length zs + 2)) (test-from_minimal zs g old.1) (lt_test g (2 * length zs + 2) (omega arith))))

level-lengths : (genus k : ℕ) → AllByRecursion (λ (m : List ℕ). length m ≡ k) (level (children_of genus) k [])
level-lengths genus zero = (refl, tt)
level-lengths genus (suc k) =
    subst (λ ms. AllByRecursion (λ (m : List ℕ). length m ≡ suc k) ms) (sym (level-more (children_of genus) k []))
    (all-flat_map (λ (m : List ℕ). length m ≡ suc k) (children_of genus) (λ (m : List ℕ). length m ≡ k)
    (λ m long. children-all genus (λ c. length c ≡ suc k) m (λ g few minimal. let longer = length_push m g in omega arith))
    (level (children_of genus) k []) (level-lengths genus k))

children-nonempty : (genus : ℕ) (m : List ℕ) → occurs [] (children_of genus m) ≡ 0
children-nonempty genus m =
    elim (nat_lt (length m) genus) as (λ b. occurs [] (if b then map (without m) (generators_above m) else []) ≡ 0) [
      | true ↦ sum_by-map (only []) (without m) (generators_above m) ∙ sum_by-zero (λ h. only [] (without m h)) (nonempty m) (generators_above m)
      | false ↦ refl
    ]

-- the lists of a level are the sets of gaps of that genus, each once
once : (genus k : ℕ) (xs : List ℕ) → k ≤ genus → occurs xs (level (children_of genus) k []) ≡ one_if (IsCounted k xs)
once genus zero [] h = refl
once genus zero (y ∷ ys) h =
    let other : (suc (length ys) == 0) ≡ false = grind (arith, nat_tests) in
    sym (ap (λ b. one_if (is_gap_set (y ∷ ys) && (b && rises_from 1 0 (y ∷ ys)))) other ∙ ap one_if (and_none (is_gap_set (y ∷ ys))))
once genus (suc k) [] h =
    ap (occurs []) (level-more (children_of genus) k [])
    ∙ sum_by-flat_map (only []) (children_of genus) (level (children_of genus) k [])
    ∙ sum_by-zero (λ m. occurs [] (children_of genus m)) (children-nonempty genus) (level (children_of genus) k [])
    ∙ sym (ap (λ b. one_if (is_gap_set [] && b)) (choice-empty k 1 (2 * suc k - 1)))
once genus (suc k) (y ∷ ys) h =
    let parts = last_of y ys in
    let zs = parts.front in
    let g = parts.last in
    let ns = level (children_of genus) k [] in
    let c = one_if (is_generator zs g && nat_lt g (2 * length zs + 2)) in
    ap (λ xs. occurs xs (level (children_of genus) (suc k) [])) parts.is
    ∙ ap (occurs (zs ++ g ∷ [])) (level-more (children_of genus) k [])
    ∙ sum_by-flat_map (only (zs ++ g ∷ [])) (children_of genus) ns
    ∙ sum_by-agree_on (λ m. occurs (zs ++ g ∷ []) (children_of genus m)) (λ m. only zs m * c) (λ (m : List ℕ). length m ≡ k)
    (λ m long. occurs-children genus k zs g m (omega arith) long) ns (level-lengths genus k)
    ∙ sum_by-times (only zs) c ns
    ∙ ap (λ n. n * c) (once genus k zs (omega arith))
    ∙ times_if (IsCounted k zs) (is_generator zs g && nat_lt g (2 * length zs + 2))
    ∙ ap one_if (counted-snoc k zs g)
    ∙ ap (λ xs. one_if (IsCounted (suc k) xs)) (sym parts.is)

-- a list occurs once among the sets of gaps of a genus, whatever the upper end of the range, or not at all
occurs-gap_sets : (k high : ℕ) (xs : List ℕ) → 2 * k - 1 ≤ high → occurs xs (filter is_gap_set (choices k (range_with_len 1 high))) ≡ one_if (IsCounted k xs)
occurs-gap_sets k high xs h =
    occurs-filter is_gap_set xs (choices k (range_with_len 1 high))
    ∙ ap (λ n. cond (is_gap_set xs) n 0) (occurs-choices xs k 1 high high (omega arith))
    ∙ if_and (is_gap_set xs) (is_choice k 1 high xs)
    ∙ ap one_if (bool_same (is_gap_set xs && is_choice k 1 high xs) (IsCounted k xs)
    (λ e.
    let gaps = both_first (is_gap_set xs) (is_choice k 1 high xs) e in
    let choice = both_second (is_gap_set xs) (is_choice k 1 high xs) e in
    let test = both_first (length xs == k) (rises_from 1 high xs) choice in
    let long : length xs ≡ k = grind (arith, nat_tests) in
    let closed = closed-from_test xs gaps in
    counted-from_known k xs (record { closed = closed; rises = within-bound 1 high xs closed (both_second (length xs == k) (rises_from 1 high xs) choice) }) long)
    (λ e.
    let gaps = both_first (is_gap_set xs) (is_choice k 1 (2 * k - 1) xs) e in
    let choice = both_second (is_gap_set xs) (is_choice k 1 (2 * k - 1) xs) e in
    let rises = both_second (length xs == k) (rises_from 1 (2 * k - 1) xs) choice in
    both (is_gap_set xs) (is_choice k 1 high xs) gaps
    (both (length xs == k) (rises_from 1 high xs) (both_first (length xs == k) (rises_from 1 (2 * k - 1) xs) choice)
    (rises-below 1 (2 * k - 1) high xs (λ x inside. let at = rises-at 1 (2 * k - 1) xs x rises inside in let most = at.1 in omega arith) rises))))

-- sets with greater members add none
pub gap_sets-greater : (k high : ℕ) → 2 * k - 1 ≤ high → SameBag (filter is_gap_set (choices k (range_with_len 1 high))) (gap_sets k)
gap_sets-greater k high h =
    same-occurs (filter is_gap_set (choices k (range_with_len 1 high))) (gap_sets k)
    (λ xs. occurs-gap_sets k high xs h ∙ sym (occurs-gap_sets k (2 * k - 1) xs (omega arith)))

-- the nodes at a depth are the sets of gaps of that genus, each once
pub nodes_at-gap_sets : (genus k : ℕ) → k ≤ genus → SameBag (nodes_at k (preorder (semigroup_tree genus))) (gap_sets k)
nodes_at-gap_sets genus k h =
    let root = semigroup-from genus [] known-root (omega arith) in
    let is = nodes_at-tree (semigroups-ranked genus) k [] root in
    same-occurs (nodes_at k (preorder (semigroup_tree genus))) (gap_sets k)
    (λ xs. ap (occurs xs) is ∙ once genus k xs h ∙ sym (occurs-gap_sets k (2 * k - 1) xs (omega arith)))

length-sum : {X : Type 0} (xs : List X) → sum_by (λ _. 1) xs ≡ length xs
length-sum [] = refl
length-sum {X} (x ∷ xs) = let step = sum_by-cons (λ (_ : X). 1) x xs in let rest = length-sum xs in omega arith

members_at-nodes : {N : Type 0} (k : ℕ) (ms : List (Member N)) → members_at k ms ≡ length (nodes_at k ms)
members_at-nodes k [] = refl
members_at-nodes {N} k (m ∷ ms) =
    sum_by-cons (λ (x : Member N). one_if (length x.path == k)) m ms
    ∙ elim (length m.path == k) as (λ b. one_if b + members_at k ms ≡ length (map (λ (x : Member N). x.node) (cond b (m ∷ filter (λ x. length x.path == k) ms) (filter (λ x. length x.path == k) ms)))) [
      | true ↦ let rest = members_at-nodes k ms in omega arith
      | false ↦ let rest = members_at-nodes k ms in omega arith
    ]

-- so many nodes stand at a depth as there are semigroups of that genus
pub members_at-semigroups : (genus k : ℕ) → k ≤ genus → members_at k (preorder (semigroup_tree genus)) ≡ semigroups_of_genus k
members_at-semigroups genus k h =
    members_at-nodes k (preorder (semigroup_tree genus))
    ∙ sym (length-sum (nodes_at k (preorder (semigroup_tree genus))))
    ∙ (nodes_at-gap_sets genus k h).weighs (λ _. 1)
    ∙ length-sum (gap_sets k)

map-agree_to : (f g : ℕ → ℕ) (low n : ℕ) → ((k : ℕ) → k < low + n → f k ≡ g k) → map f (range_with_len low n) ≡ map g (range_with_len low n)
map-agree_to f g low zero h = refl
map-agree_to f g low (suc n) h = ap₂ (λ x xs. x ∷ xs) (h low (omega arith)) (map-agree_to f g (low + 1) n (λ k e. h k (omega arith)))

-- the counts by depth are the numbers of semigroups by genus
pub depth_counts-semigroups : (genus : ℕ) → depth_counts (semigroup_tree genus) genus ≡ map (λ k. saturated (semigroups_of_genus k)) (range_with_len 0 (genus + 1))
depth_counts-semigroups genus =
    map-agree_to (λ k. saturated (members_at k (preorder (semigroup_tree genus)))) (λ k. saturated (semigroups_of_genus k)) 0 (genus + 1)
    (λ k e. ap saturated (members_at-semigroups genus k (omega arith)))

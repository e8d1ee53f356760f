-- The passes are put in order by swaps, each of which brings one to its place.
use Rattle.std.proofs.Common.{◌≡◌, ◌≢◌, ℕ, ◌+◌, ◌<◌, ◌≤◌, ◌∙◌, zero, suc, Bool, cond, eq-eqb, ne_eqb, List, [], ◌∷◌, length, set, get_or, sym, ap, subst, arith}
use Rattle.std.specs.Prelude.{All}
use Rattle.std.specs.List.{swap}
use Rattle.std.proofs.lemmas.List.{get_or-set_other, get_or_default}
use Rattle.std.proofs.lemmas.List.Edits.{swap_is}
use Rattle.std.proofs.lemmas.List.Elements.{All-set}
use Rattle.std.proofs.lemmas.List.Sums.{sum_by-set}
use Rattle.std.proofs.Math.ListN.{length-set}
use native.Mathlib.Decide.{ℕ_discrete}
use Rattle.yew_laws.proofs.Bags.{same-refl}
use Rattle.yew_pool.specs.Passes.{PassView, PoolId}
use Rattle.yew_pool.specs.Ordering.{off_place, misplaced, AreInOrder, AreOrdering}

module _ {T Q : Type 0} where
  off_here : (count at : ℕ) (x : PassView T Q) → x.number + at + 1 ≡ count → off_place count at x ≡ 0
  off_here count at x is = ap (λ (b : Bool). cond b 0 1) (eq-eqb (x.number + at + 1) count is)

  off_else : (count at : ℕ) (x : PassView T Q) → x.number + at + 1 ≢ count → off_place count at x ≡ 1
  off_else count at x other = ap (λ (b : Bool). cond b 0 1) (ne_eqb (x.number + at + 1) count other)

  off_most : (count at : ℕ) (x : PassView T Q) → off_place count at x ≤ 1
  off_most count at x = by_case (ℕ_discrete (x.number + at + 1) count)
    where
      by_case : Dec (x.number + at + 1 ≡ count) → off_place count at x ≤ 1
      by_case (yes is) = let e = off_here count at x is in omega (arith, e)
      by_case (no other) = let e = off_else count at x other in omega (arith, e)

  misplaced_set : (count at : ℕ) (xs : List (PassView T Q)) (k j : ℕ) (w d : PassView T Q) → k < length xs → at + k ≡ j
      → misplaced count at (set xs k w) + off_place count j (get_or xs k d) ≡ misplaced count at xs + off_place count j w
  unfolding misplaced
  misplaced_set count at [] k j w d below is = absurd (omega arith)
  misplaced_set count at (x ∷ xs) zero j w d below is =
      let e : at ≡ j = omega (arith, is) in
      let a = ap (λ i. off_place count i x) e in let b = ap (λ i. off_place count i w) e in omega (arith, a, b)
  misplaced_set count at (x ∷ xs) (suc k) j w d below is =
      let next = misplaced_set count (suc at) xs k j w d (omega arith) (omega (arith, is)) in omega (arith, next)

  -- a swap that brings a pass to its place
  swaps_less : (count i j : ℕ) (xs : List (PassView T Q)) (x y : PassView T Q) → i < length xs → j < length xs → i ≢ j → get_or xs i x ≡ x
      → get_or xs j y ≡ y → x.number + j + 1 ≡ count → y.number ≢ x.number
      → misplaced count 0 (set (set xs i y) j x) < misplaced count 0 xs
  swaps_less count i j xs x y low high other x_is y_is place apart =
      let a = misplaced_set count 0 xs i i y x low (omega arith) in
      let b = misplaced_set count 0 (set xs i y) j j x y (omega (arith, high, length-set xs i y)) (omega arith) in
      let c = ap (λ (t : PassView T Q). off_place count i t) x_is in
      let d = ap (λ (t : PassView T Q). off_place count j t) (get_or-set_other xs i j y y (λ e. other (sym e)) ∙ y_is) in
      let e = off_else count i x (λ h. other (omega (arith, h, place))) in
      let f = off_else count j y (λ h. apart (omega (arith, h, place))) in
      let g = off_here count j x place in
      let h = off_most count i y in omega (arith, a, b, c, d, e, f, g, h)

  swap_as : (xs ys : List (PassView T Q)) (i j : ℕ) (x y : PassView T Q) → i < length xs → j < length xs → get_or xs i x ≡ x → get_or xs j y ≡ y
      → ys ≡ swap xs i j → ys ≡ set (set xs i y) j x
  swap_as xs ys i j x y low high x_is y_is is =
      is ∙ (sym (swap_is xs i j x low high) ∙ (λ k. set (set xs i ((get_or_default xs j x y high ∙ y_is) k)) j (x_is k)))

  pub swaps_less_as : (count i j : ℕ) (xs ys : List (PassView T Q)) (x y : PassView T Q) → i < length xs → j < length xs → i ≢ j → x ≡ get_or xs i x
      → y ≡ get_or xs j y → x.number + j + 1 ≡ count → y.number ≢ x.number → ys ≡ swap xs i j
      → misplaced count 0 ys < misplaced count 0 xs
  swaps_less_as count i j xs ys x y low high other x_is y_is place apart is =
      subst (λ (l : List (PassView T Q)). misplaced count 0 l < misplaced count 0 xs) (sym (swap_as xs ys i j x y low high (sym x_is) (sym y_is) is))
      (swaps_less count i j xs x y low high other (sym x_is) (sym y_is) place apart)

  pub order_begins : (pool : PoolId) (count : ℕ) (all : List (PassView T Q)) → All (λ (p : PassView T Q). p.pool ≡ pool) all → length all ≡ count
      → AreOrdering pool count all all 0
  order_begins pool count all pools long =
      record { long = long; bag = same-refl all; pools = pools; told = λ about a. a; placed = λ at d less. absurd (omega arith) }

  -- a pass of the pool and its place
  pub order_at : (pool : PoolId) (at k place : ℕ) (all now : List (PassView T Q)) (x : PassView T Q) → AreOrdering pool (length pool.deques) all now at
      → k < length now → x ≡ get_or now k x → x.number + place + 1 ≡ length x.pool.deques
      → (x.number + place + 1 ≡ length pool.deques) × (place < length now)
  order_at pool at k place all now x is below here placed =
      let same : x.pool ≡ pool = subst (λ (p : PassView T Q). p.pool ≡ pool) (sym here) (is.pools k x below) in
      let e : x.number + place + 1 ≡ length pool.deques = placed ∙ ap (λ (p : PoolId). length p.deques) same in (e, (let l = is.long in omega (arith, e, l)))

  pub order_next : (pool : PoolId) (count at : ℕ) (all now : List (PassView T Q)) (x : PassView T Q) → AreOrdering pool count all now at → at < length now
      → x ≡ get_or now at x → x.number + at + 1 ≡ count → AreOrdering pool count all now (at + 1)
  order_next pool count at all now x is below here place = record {
    long = is.long;
    bag = is.bag;
    pools = is.pools;
    told = is.told;
    placed = λ k d less long. by_case k d less long (ℕ_discrete k at);
  }
    where
      by_case : (k : ℕ) (d : PassView T Q) → k < at + 1 → k < length now → Dec (k ≡ at) → (get_or now k d).number + k + 1 ≡ count
      by_case k d less long (yes same) =
          let e : get_or now k d ≡ x = ap (λ j. get_or now j d) same ∙ (get_or_default now at d x below ∙ sym here) in
          let n = ap (λ (p : PassView T Q). p.number) e in omega (arith, n, same, place)
      by_case k d less long (no other) = is.placed k d (omega (arith, less, other)) long

  pub order_swap : (pool : PoolId) (count i j : ℕ) (all now later : List (PassView T Q)) (x y : PassView T Q) → AreOrdering pool count all now i
      → i < length now → j < length now → i ≢ j → x ≡ get_or now i x → y ≡ get_or now j y
      → x.number + j + 1 ≡ count → y.number ≢ x.number → later ≡ swap now i j → AreOrdering pool count all later i
  order_swap pool count i j all now later x y is low high other x_is y_is place apart swapped =
      subst (λ (l : List (PassView T Q)). AreOrdering pool count all l i) (sym (swap_as now later i j x y low high (sym x_is) (sym y_is) swapped)) record {
        long = (let a = length-set (set now i y) j x in let b = length-set now i y in let l = is.long in omega (arith, a, b, l));
        bag = record {
          weighs = λ h. (
              let a = sum_by-set h now i y x low in
              let b = sum_by-set h (set now i y) j x y (omega (arith, high, length-set now i y)) in
              let c = ap h (sym x_is) in let d = ap h (get_or-set_other now i j y y (λ e. other (sym e)) ∙ sym y_is) in
              let e = is.bag.weighs h in omega (arith, a, b, c, d, e));
        };
        pools = both (λ (p : PassView T Q). p.pool ≡ pool) is.pools;
        told = λ about a. both (λ (p : PassView T Q). p.members ≡ about) (is.told about a);
        placed = λ k d less long. (
            let ki : k ≢ i = omega arith in
            let kj : k ≢ j = ahead k less in
            let e = get_or-set_other (set now i y) j k x d kj ∙ get_or-set_other now i k y d ki in
            let n = ap (λ (p : PassView T Q). p.number) e in
            let p = is.placed k d less (omega (arith, long, length-set (set now i y) j x, length-set now i y)) in omega (arith, n, p)
            );
      }
    where
      both : (P : PassView T Q → Type 0) → All P now → All P (set (set now i y) j x)
      both P all = All-set P (set now i y) j x (subst P (sym x_is) (all i x low)) (All-set P now i y (subst P (sym y_is) (all j y high)) all)

      -- the pass at j is not at its place, so j is ahead
      ahead : (k : ℕ) → k < i → k ≢ j
      ahead k less same = apart (let p = is.placed j y (omega (arith, less, same)) high in let n = ap (λ (p : PassView T Q). p.number) y_is in
          omega (arith, p, n, place))

  pub order_ends : (pool : PoolId) (count at : ℕ) (all now : List (PassView T Q)) → AreOrdering pool count all now at → length now ≤ at
      → AreInOrder pool count now
  order_ends pool count at all now is end = record { pools = is.pools; placed = λ k d below. is.placed k d (omega (arith, below, end)) below }

-- No set at or below a node has more profit than Dantzig's bound allows.
use Rattle.std.specs.Prelude.{◌≡◌, ℕ, ◌+◌, ◌-◌, ◌*◌, ◌/◌, ◌<◌, ◌≤◌, ◌^◌, Bool, true, false, ◌||◌, ◌==◌, ◌⊎◌, List, [], ◌∷◌, length, take, drop, sum_by, slice_get, Some, if◌then◌else◌, refl}
use Rattle.std.specs.List.{AllByRecursion}
use Rattle.std.proofs.Common.{zero, suc, ap, subst, ◌∙◌, inl, inr, arith}
use Rattle.std.proofs.Math.Nat.{mul-le-mul_left, le-div_iff_mul-le, div-le_of_le-mul}
use Rattle.std.proofs.lemmas.Bool.{cases_lt, le-leb, lt-leb}
use Rattle.std.proofs.lemmas.Bool.Decides.{nat_tests}
use Rattle.std.proofs.lemmas.List.{take-take}
use Rattle.std.proofs.lemmas.List.Sums.{sum_by-cons, sum_by-take-drop}
use Rattle.std.proofs.lemmas.Option.{same_Some, option_and_then_some}
use Rattle.yew_laws.specs.Tree.{node_at, IsBounded}
use Rattle.yew_laws.proofs.Members.{AllByRecursion-weaker, AllByRecursion-both}
use Rattle.yew_knap.specs.declared.item_sets.ItemSet.{ItemSet}
use Rattle.yew_knap.specs.declared.nodes.KnapNode.{KnapNode}
use Rattle.yew_knap.specs.declared.copies.ItemCopy.{ItemCopy}
use Rattle.yew_knap.specs.Instance.{Instance}
use Rattle.yew_knap.specs.ItemSets.{has_item, with_item}
use Rattle.yew_knap.specs.Lists.{AllByRecursion-all, AllByRecursion-take, sum_by-agree, sum_by-below, sum_by-none}
use Rattle.yew_knap.specs.Nodes.{added, children_of, worth_of, dantzig, bound_of, amount_in, IsNode, items_of, opened}
use Rattle.yew_knap.specs.NodeLaws.{IsOther, IsNext, others_before, has_added, child-at, added-sound}
use Rattle.yew_knap.specs.Copies.{searched_copies}
use Rattle.yew_knap.specs.CopyLaws.{NoWorse, FallsInValue, IsSmallCopy, length-searched_copies, searched_copies-falls, searched_copies-small}

abbrev profit_in : ItemSet → ItemCopy → ℕ
profit_in items = amount_in (λ item. item.profit) items

abbrev weight_in : ItemSet → ItemCopy → ℕ
weight_in items = amount_in (λ item. item.weight) items

-- a set among items of no more value than x has no more value than x
dominated : (items : ItemSet) (x : ItemCopy) (ys : List ItemCopy) → AllByRecursion (NoWorse x) ys → sum_by (profit_in items) ys * x.weight ≤ x.profit * sum_by (weight_in items) ys
dominated items x [] a = omega arith
dominated items x (y ∷ ys) a =
    let p = sum_by-cons (profit_in items) y ys in
    let w = sum_by-cons (weight_in items) y ys in
    let rest = dominated items x ys a.1 in
    elim (has_item items y.index)
    as (λ b. sum_by (profit_in items) (y ∷ ys) ≡ (if b then y.profit else 0) + sum_by (profit_in items) ys → sum_by (weight_in items) (y ∷ ys) ≡ (if b then y.weight else 0) + sum_by (weight_in items) ys → sum_by (profit_in items) (y ∷ ys) * x.weight ≤ x.profit * sum_by (weight_in items) (y ∷ ys)) [
      | true ↦ λ e d. rw (e, d) (omega (arith, rest, a.0))
      | false ↦ λ e d. rw (e, d) (omega (arith, rest))
    ]
    p w

-- The first item that does not fit, with the profit of those before it and the room that they leave: Dantzig's argument.
record Critical (items : ItemSet) (room : ℕ) (xs : List ItemCopy) : Type 0 where
  pub item : ItemCopy
  pub profit : ℕ
  pub left : ℕ
  pub too_heavy : left < item.weight
  pub bound : dantzig room xs ≡ profit + item.profit * left / item.weight
  pub no_better : (y : ItemCopy) → AllByRecursion (NoWorse y) xs → NoWorse y item
  pub argument : sum_by (profit_in items) xs * item.weight + item.profit * room ≤ profit * item.weight + item.profit * left + item.profit * sum_by (weight_in items) xs

-- all items fit, or one is critical
abbrev Greedy : ItemSet → ℕ → List ItemCopy → Type 0
Greedy items room xs = (sum_by (profit_in items) xs ≤ dantzig room xs) ⊎ Critical items room xs

pub dantzig-fits : (room : ℕ) (x : ItemCopy) (xs : List ItemCopy) → x.weight ≤ room → dantzig room (x ∷ xs) ≡ x.profit + dantzig (room - x.weight) xs
dantzig-fits room x xs l =
    ap (λ b. if b then x.profit + dantzig (room - x.weight) xs else x.profit * room / x.weight) (le-leb x.weight room l)

pub dantzig-stops : (room : ℕ) (x : ItemCopy) (xs : List ItemCopy) → room < x.weight → dantzig room (x ∷ xs) ≡ x.profit * room / x.weight
dantzig-stops room x xs l =
    ap (λ b. if b then x.profit + dantzig (room - x.weight) xs else x.profit * room / x.weight) (lt-leb x.weight room l)

-- one step of the argument, with the item in the set and without it
argument-with : (gain profit heavy worth rest weight before left others : ℕ) → profit * heavy + worth * rest ≤ before * heavy + worth * left + worth * others → (gain + profit) * heavy + worth * (rest + weight) ≤ (gain + before) * heavy + worth * left + worth * (weight + others)
argument-with gain profit heavy worth rest weight before left others h = omega arith

argument-without : (gain profit heavy worth rest weight before left others : ℕ) → worth * weight ≤ gain * heavy → profit * heavy + worth * rest ≤ before * heavy + worth * left + worth * others → profit * heavy + worth * (rest + weight) ≤ (gain + before) * heavy + worth * left + worth * others
argument-without gain profit heavy worth rest weight before left others n h = omega arith

amount_in-le : (amount : ItemCopy → ℕ) (items : ItemSet) (x : ItemCopy) → amount_in amount items x ≤ amount x
amount_in-le amount items x =
    elim (has_item items x.index) as (λ b. (if b then amount x else 0) ≤ amount x) [ true ↦ omega arith | false ↦ omega arith ]

critical-behind : (items : ItemSet) (room : ℕ) (x : ItemCopy) (xs : List ItemCopy) → x.weight ≤ room → AllByRecursion (NoWorse x) xs → Critical items (room - x.weight) xs → Critical items room (x ∷ xs)
critical-behind items room x xs l falls c = record {
  item = c.item;
  profit = x.profit + c.profit;
  left = c.left;
  too_heavy = c.too_heavy;
  bound = let e = dantzig-fits room x xs l in let d = c.bound in omega (arith, e, d);
  no_better = λ y a. c.no_better y a.1;
  argument =
      let p = sum_by-cons (profit_in items) x xs in
      let w = sum_by-cons (weight_in items) x xs in
      let same : (room - x.weight) + x.weight ≡ room = omega arith in
      let no_worse : c.item.profit * x.weight ≤ x.profit * c.item.weight = c.no_better x falls in
      elim (has_item items x.index)
      as (λ b. sum_by (profit_in items) (x ∷ xs) ≡ (if b then x.profit else 0) + sum_by (profit_in items) xs → sum_by (weight_in items) (x ∷ xs) ≡ (if b then x.weight else 0) + sum_by (weight_in items) xs → sum_by (profit_in items) (x ∷ xs) * c.item.weight + c.item.profit * room ≤ (x.profit + c.profit) * c.item.weight + c.item.profit * c.left + c.item.profit * sum_by (weight_in items) (x ∷ xs)) [
        | true ↦ λ e d.
            rw (e, d)
            (subst (λ r. (x.profit + sum_by (profit_in items) xs) * c.item.weight + c.item.profit * r ≤ (x.profit + c.profit) * c.item.weight + c.item.profit * c.left + c.item.profit * (x.weight + sum_by (weight_in items) xs)) same
            (argument-with x.profit (sum_by (profit_in items) xs) c.item.weight c.item.profit (room - x.weight) x.weight c.profit c.left (sum_by (weight_in items) xs) c.argument))
        | false ↦ λ e d.
            let p_is : sum_by (profit_in items) (x ∷ xs) ≡ sum_by (profit_in items) xs = omega (arith, e) in
            let w_is : sum_by (weight_in items) (x ∷ xs) ≡ sum_by (weight_in items) xs = omega (arith, d) in
            rw (p_is, w_is)
            (subst (λ r. sum_by (profit_in items) xs * c.item.weight + c.item.profit * r ≤ (x.profit + c.profit) * c.item.weight + c.item.profit * c.left + c.item.profit * sum_by (weight_in items) xs) same
            (argument-without x.profit (sum_by (profit_in items) xs) c.item.weight c.item.profit (room - x.weight) x.weight c.profit c.left (sum_by (weight_in items) xs) no_worse c.argument))
      ]
      p w;
}

greedy : (items : ItemSet) (room : ℕ) (xs : List ItemCopy) → FallsInValue xs → Greedy items room xs
greedy items room [] f = inl (omega arith)
greedy items room (x ∷ xs) f =
    elim (cases_lt room x.weight) [
      | inl heavy ↦ inr (record {
        item = x;
        profit = 0;
        left = room;
        too_heavy = heavy;
        bound = let e = dantzig-stops room x xs heavy in omega (arith, e);
        no_better = λ y a. a.0;
        argument = let d = dominated items x (x ∷ xs) (omega arith, f.0) in omega (arith, d);
      })
      | inr fits ↦
          elim (greedy items (room - x.weight) xs f.1) [
            | inl all ↦ inl (let p = sum_by-cons (profit_in items) x xs in let own = amount_in-le (λ item. item.profit) items x in let e = dantzig-fits room x xs fits in omega (arith, p, own, e, all))
            | inr c ↦ inr (critical-behind items room x xs fits f.0 c)
          ]
    ]

quotient : (profit before heavy q : ℕ) → 0 < heavy → profit * heavy ≤ before * heavy + q → profit ≤ before + q / heavy
quotient profit before heavy q weighs h =
    elim (cases_lt profit before) [
      | inl less ↦ omega arith
      | inr more ↦
          let same : before + (profit - before) ≡ profit = omega arith in
          let whole : (before + (profit - before)) * heavy ≤ before * heavy + q = rw same h in
          let part : (profit - before) * heavy ≤ q = omega (arith, whole) in
          let within : profit - before ≤ q / heavy = (le-div_iff_mul-le weighs).1 part in
          omega (arith, within, same)
    ]

-- Dantzig's theorem: no set of the items that fits in the room has more profit than the bound
pub dantzig-bounds : (items : ItemSet) (room : ℕ) (xs : List ItemCopy) → FallsInValue xs → sum_by (weight_in items) xs ≤ room → sum_by (profit_in items) xs ≤ dantzig room xs
dantzig-bounds items room xs f fits =
    elim (greedy items room xs f) [
      | inl all ↦ all
      | inr c ↦
          let weighs = mul-le-mul_left c.item.profit fits in
          let argument = c.argument in
          let heavy = c.too_heavy in
          let most = quotient (sum_by (profit_in items) xs) c.profit c.item.weight (c.item.profit * c.left) (omega (arith, heavy)) (omega (arith, weighs, argument)) in
          rw c.bound most
    ]

FallsInValue-drop : (k : ℕ) (xs : List ItemCopy) → FallsInValue xs → FallsInValue (drop k xs)
FallsInValue-drop zero xs f = f
FallsInValue-drop (suc k) [] f = f
FallsInValue-drop (suc k) (x ∷ xs) f = FallsInValue-drop k xs f.1

-- the bound is at most the profit of all items
dantzig-total : (room : ℕ) (xs : List ItemCopy) → dantzig room xs ≤ sum_by (λ item. item.profit) xs
dantzig-total room [] = omega arith
dantzig-total room (x ∷ xs) =
    let cons = sum_by-cons (λ (item : ItemCopy). item.profit) x xs in
    elim (cases_lt room x.weight) [
      | inl heavy ↦
          let e = dantzig-stops room x xs heavy in
          let less : x.profit * room ≤ x.weight * x.profit = let m = mul-le-mul_left x.profit (le_of_lt heavy) in omega (arith, m) in
          let part : x.profit * room / x.weight ≤ x.profit = div-le_of_le-mul x.weight less in
          omega (arith, e, part, cons)
      | inr fits ↦
          let e = dantzig-fits room x xs fits in
          let rest = dantzig-total (room - x.weight) xs in
          omega (arith, e, rest, cons)
    ]
  where
    le_of_lt : {m n : ℕ} → m < n → m ≤ n
    le_of_lt h = omega arith

total-small : (n : ℕ) (xs : List ItemCopy) → AllByRecursion (IsSmallCopy n) xs → sum_by (λ item. item.profit) xs ≤ length xs * 2 ^ 31
total-small n [] a = omega arith
total-small n (x ∷ xs) a =
    let cons = sum_by-cons (λ (item : ItemCopy). item.profit) x xs in
    let rest = total-small n xs a.1 in
    let own = a.0.1 in
    omega (arith, cons, rest, own)

module _ (instance : Instance) where
  -- a node at or below another has the same of the items before the other's next place
  pub record Grows (node below : KnapNode) : Type 0 where
    pub sound : IsNode instance below
    pub agrees : AllByRecursion (λ item. has_item (items_of below) item.index ≡ has_item (items_of node) item.index) (take node.next (searched_copies instance))

  grows-child : (node below : KnapNode) → IsNode instance node → (place : ℕ) (item : ItemCopy) (after : List ItemCopy) → IsNext instance node place item after → Grows (added instance (opened node) place item) below → Grows node below
  grows-child node below sound place item after next grows = record {
    sound = grows.sound;
    agrees =
        AllByRecursion-weaker (λ y. (has_item (items_of below) y.index ≡ has_item (with_item (items_of node) item.index) y.index) × IsOther item.index y) (λ y. has_item (items_of below) y.index ≡ has_item (items_of node) y.index)
        (λ y both. both.0 ∙ has_added instance place item after next.at (items_of node) sound.size sound.limits y.index ∙ without (has_item (items_of node) y.index) (y.index == item.index) both.1)
        (take node.next (searched_copies instance))
        (AllByRecursion-both (λ y. has_item (items_of below) y.index ≡ has_item (with_item (items_of node) item.index) y.index) (IsOther item.index) (take node.next (searched_copies instance))
        (earlier (place + 1) (let f = next.from in omega (arith, f)) (λ y. has_item (items_of below) y.index ≡ has_item (with_item (items_of node) item.index) y.index) grows.agrees)
        (earlier place next.from (IsOther item.index) (others_before instance place item after next.at)));
  }
    where
      without : (a b : Bool) → b ≡ false → (a || b) ≡ a
      without a b e = grind (arith, nat_tests)

      earlier : (k : ℕ) → node.next ≤ k → (P : ItemCopy → Type 0) → AllByRecursion P (take k (searched_copies instance)) → AllByRecursion P (take node.next (searched_copies instance))
      earlier k l P a =
          subst (λ ys. AllByRecursion P ys) (take-take node.next k (searched_copies instance) l) (AllByRecursion-take P node.next (take k (searched_copies instance)) a)

  -- along a path sets grow
  pub grows-along : (path : List ℕ) (node below : KnapNode) → IsNode instance node → node_at (children_of instance) node path ≡ Some below → Grows node below
  grows-along [] node below sound e =
      subst (Grows node) (same_Some node below e) (record {
        sound = sound;
        agrees = AllByRecursion-all (λ item. has_item (items_of node) item.index ≡ has_item (items_of node) item.index) (λ item. refl) (take node.next (searched_copies instance));
      })
  grows-along (k ∷ ks) node below sound e =
      option_and_then_some (λ c. node_at (children_of instance) c ks) (slice_get (children_of instance node) k) below e
      (λ child at rest.
      let a = child-at instance node k child at in
      grows-child node below sound a.place a.item a.after a.next
      (subst (λ c. Grows c below) a.is (grows-along ks child below (added-sound instance node child sound a) rest)))

  -- what a set at or below a node has more than the node's own is of items from the node's next place on
  pub amount-below : (node below : KnapNode) → IsNode instance node → Grows node below → (amount : ItemCopy → ℕ) → sum_by (amount_in amount (items_of below)) (searched_copies instance) ≡ sum_by (amount_in amount (items_of node)) (searched_copies instance) + sum_by (amount_in amount (items_of below)) (drop node.next (searched_copies instance))
  amount-below node below sound grows amount =
      let order = searched_copies instance in
      let whole = sum_by-take-drop (amount_in amount (items_of below)) order node.next in
      let own = sum_by-take-drop (amount_in amount (items_of node)) order node.next in
      let none = sum_by-none (amount_in amount (items_of node)) (drop node.next order) (AllByRecursion-weaker (λ item. has_item (items_of node) item.index ≡ false) (λ item. amount_in amount (items_of node) item ≡ 0) (λ item e. ap (λ b. if b then amount item else 0) e) (drop node.next order) sound.none_later) in
      let same = sum_by-agree (amount_in amount (items_of below)) (amount_in amount (items_of node)) (take node.next order) (AllByRecursion-weaker (λ item. has_item (items_of below) item.index ≡ has_item (items_of node) item.index) (λ item. amount_in amount (items_of below) item ≡ amount_in amount (items_of node) item) (λ item e. ap (λ b. if b then amount item else 0) e) (take node.next order) grows.agrees) in
      omega (arith, whole, own, none, same)

  worth-bounded : (node below : KnapNode) → IsNode instance node → Grows node below → worth_of instance below ≤ bound_of instance node
  worth-bounded node below sound grows =
      let profits = amount-below node below sound grows (λ item. item.profit) in
      let weights = amount-below node below sound grows (λ item. item.weight) in
      let own_profit = sound.profit_is in
      let own_room = sound.room_is in
      let below_profit = grows.sound.profit_is in
      let below_room = grows.sound.room_is in
      let most = dantzig-bounds (items_of below) node.room (drop node.next (searched_copies instance)) (FallsInValue-drop node.next (searched_copies instance) (searched_copies-falls instance)) (omega (arith, weights, own_room, below_room)) in
      omega (arith, profits, own_profit, below_profit, most)

  bound-small : (node : KnapNode) → IsNode instance node → bound_of instance node < 2 ^ 40
  bound-small node sound =
      let order = searched_copies instance in
      let few = sound.limits.few_copies in
      let long = length-searched_copies instance in
      let profit = sound.profit_is in
      let all = total-small (length instance.items) order (searched_copies-small instance sound.limits) in
      let parts = sum_by-take-drop (λ (item : ItemCopy). item.profit) order node.next in
      let own = sum_by-take-drop (amount_in (λ item. item.profit) (items_of node)) order node.next in
      let none = sum_by-none (amount_in (λ item. item.profit) (items_of node)) (drop node.next order) (AllByRecursion-weaker (λ item. has_item (items_of node) item.index ≡ false) (λ item. amount_in (λ i. i.profit) (items_of node) item ≡ 0) (λ item e. ap (λ b. if b then item.profit else 0) e) (drop node.next order) sound.none_later) in
      let less = sum_by-below (amount_in (λ item. item.profit) (items_of node)) (λ item. item.profit) (take node.next order) (AllByRecursion-all (λ item. amount_in (λ i. i.profit) (items_of node) item ≤ item.profit) (λ item. amount_in-le (λ i. i.profit) (items_of node) item) (take node.next order)) in
      let rest = dantzig-total node.room (drop node.next order) in
      omega (arith, few, long, profit, all, parts, own, none, less, rest)

  -- no set at or below a node is worth more than the node's bound, and every bound is below 2 ^ 40
  pub knapsack-bounded : IsBounded (IsNode instance) (children_of instance) (worth_of instance) (bound_of instance)
  knapsack-bounded = record {
    bounds = λ node below path sound e. worth-bounded node below sound (grows-along path node below sound e);
    fits = bound-small;
  }

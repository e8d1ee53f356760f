-- The children of a node are nodes, of less rank.
use Rattle.std.specs.Prelude.{◌≡◌, ℕ, ◌+◌, ◌-◌, ◌<◌, ◌≤◌, ◌^◌, Bool, true, false, ◌&&◌, ◌||◌, ◌==◌, List, [], ◌∷◌, ◌++◌, length, take, drop, sum_by, slice_get, Some, nat_le, if◌then◌else◌, refl}
use Rattle.std.specs.List.{AllByRecursion}
use Rattle.std.proofs.Common.{ap, sym, subst, ◌∙◌, arith, add-one, length-drop, take-append-drop}
use Rattle.std.proofs.lemmas.Bool.{and_parts, leb-true}
use Rattle.std.proofs.lemmas.Bool.Decides.{nat_tests}
use Rattle.std.proofs.lemmas.List.{drop-drop}
use Rattle.std.proofs.lemmas.List.Sums.{sum_by-cons, sum_by-append}
use Rattle.yew_laws.specs.Tree.{IsRanked}
use Rattle.yew_laws.proofs.Members.{AllByRecursion-weaker, AllByRecursion-both, AllByRecursion-at}
use Rattle.yew_laws.proofs.Steps.{AllByRecursion-drop, slice_get_from_drop, drop_from_drop}
use Rattle.yew_knap.specs.declared.item_sets.ItemSet.{ItemSet}
use Rattle.yew_knap.specs.declared.nodes.KnapNode.{KnapNode}
use Rattle.yew_knap.specs.declared.nodes.KnapKids.{KnapKids}
use Rattle.yew_knap.specs.declared.copies.ItemCopy.{ItemCopy}
use Rattle.yew_knap.specs.Instance.{Instance, IsWithinLimits}
use Rattle.yew_knap.specs.ItemSets.{no_items, has_item, with_item}
use Rattle.yew_knap.specs.ItemSetLaws.{has_item-no_items, has_item-with_item, length-with_item}
use Rattle.yew_knap.specs.Lists.{AllByRecursion-all, sum_by-agree, sum_by-none, sum_by-plus}
use Rattle.yew_knap.specs.Nodes.{root_of, added, is_next, with_one_more, children_of, rank_of, amount_in, IsNode, items_of, opened}
use Rattle.yew_knap.specs.Copies.{searched_copies}
use Rattle.yew_knap.specs.CopyLaws.{IsSmallCopy, length-searched_copies, searched_copies-small, index-at, indexes_before, indexes_after}

-- another copy than the one of this place
abbrev pub IsOther : ℕ → ItemCopy → Type 0
IsOther k item = (item.index == k) ≡ false

below-other : (j k : ℕ) → j < k → (j == k) ≡ false
below-other j k l = grind (arith, nat_tests)

above-other : (j k : ℕ) → k < j → (j == k) ≡ false
above-other j k l = grind (arith, nat_tests)

-- a copy at a place of the searched order that stands at or after a node's next place and fits
pub record IsNext (instance : Instance) (node : KnapNode) (place : ℕ) (item : ItemCopy) (after : List ItemCopy) : Type 0 where
  pub from : node.next ≤ place
  pub at : drop place (searched_copies instance) ≡ item ∷ after
  pub free : is_next node.next place item ≡ true
  pub fits : item.weight ≤ node.room

module _ (instance : Instance) (place : ℕ) (item : ItemCopy) (after : List ItemCopy) (at : drop place (searched_copies instance) ≡ item ∷ after) where
  abbrev order : List ItemCopy
  order = searched_copies instance

  split : take place order ++ item ∷ after ≡ order
  split = ap (λ zs. take place order ++ zs) (sym at) ∙ take-append-drop place order

  -- no other copy has the copy's place
  pub others_before : AllByRecursion (IsOther item.index) (take place order)
  others_before =
      AllByRecursion-weaker (λ (y : ItemCopy). y.index < item.index) (IsOther item.index) (λ y l. below-other y.index item.index l) (take place order) (indexes_before instance place item after at)

  pub others_after : AllByRecursion (IsOther item.index) after
  others_after =
      AllByRecursion-weaker (λ (y : ItemCopy). item.index < y.index) (IsOther item.index) (λ y l. above-other y.index item.index l) after (indexes_after instance place item after at)

  -- the item's amount, in a sum over the order
  amount_there : (amount : ItemCopy → ℕ) → sum_by (λ y. if y.index == item.index then amount y else 0) order ≡ amount item
  amount_there amount =
      let h : ItemCopy → ℕ = λ y. if y.index == item.index then amount y else 0 in
      let whole : sum_by h (take place order ++ item ∷ after) ≡ sum_by h order = ap (sum_by h) split in
      let parts = sum_by-append h (take place order) (item ∷ after) in
      let cons = sum_by-cons h item after in
      let before : sum_by h (take place order) ≡ 0 = sum_by-none h (take place order) (AllByRecursion-weaker (IsOther item.index) (λ y. h y ≡ 0) (λ y o. ap (λ b. if b then amount y else 0) o) (take place order) others_before) in
      let behind : sum_by h after ≡ 0 = sum_by-none h after (AllByRecursion-weaker (IsOther item.index) (λ y. h y ≡ 0) (λ y o. ap (λ b. if b then amount y else 0) o) after others_after) in
      let own : h item ≡ amount item = same_index item.index (amount item) in
      omega (arith, whole, parts, cons, before, behind, own)
    where
      same_index : (k n : ℕ) → (if k == k then n else 0) ≡ n
      same_index k n = grind (arith, nat_tests)

  pub place_within : place + 1 ≤ length order
  place_within = omega (arith, ap length at, length-drop place order)

  pub item_small : IsWithinLimits instance → IsSmallCopy (length instance.items) item
  item_small limits =
      AllByRecursion-at (IsSmallCopy (length instance.items)) order place item (slice_get_from_drop order place item after at) (searched_copies-small instance limits)

  -- a copy's place is below 256
  pub index_small : IsWithinLimits instance → item.index < 256
  index_small limits = omega (arith, index-at instance place item after at, place_within, length-searched_copies instance, limits.few_copies)

  pub rest_after : drop (place + 1) order ≡ after
  rest_after = rw add-one (drop_from_drop order place item after at)

  -- what is in a set with the item
  pub has_added : (items : ItemSet) → length items.words ≡ 4 → IsWithinLimits instance → (k : ℕ) → has_item (with_item items item.index) k ≡ (has_item items k || k == item.index)
  has_added items size limits k =
      has_item-with_item items item.index k size (index_small limits)

  -- a sum over a set with the item
  pub sum_by-added : (amount : ItemCopy → ℕ) (items : ItemSet) → length items.words ≡ 4 → IsWithinLimits instance → has_item items item.index ≡ false → sum_by (amount_in amount (with_item items item.index)) order ≡ sum_by (amount_in amount items) order + amount item
  sum_by-added amount items size limits absent =
      let both = sum_by-plus (amount_in amount items) (λ y. if y.index == item.index then amount y else 0) order in
      let each = sum_by-agree (amount_in amount (with_item items item.index)) (λ y. amount_in amount items y + (if y.index == item.index then amount y else 0)) order
      (AllByRecursion-all (λ y. amount_in amount (with_item items item.index) y ≡ amount_in amount items y + (if y.index == item.index then amount y else 0)) one order) in
      let there = amount_there amount in
      omega (arith, both, each, there)
    where
      join : (a b : Bool) (n : ℕ) → (b ≡ true → a ≡ false) → (if (a || b) then n else 0) ≡ (if a then n else 0) + (if b then n else 0)
      join a b n h = grind (arith, nat_tests)

      one : (y : ItemCopy) → amount_in amount (with_item items item.index) y ≡ amount_in amount items y + (if y.index == item.index then amount y else 0)
      one y =
          ap (λ b. if b then amount y else 0) (has_added items size limits y.index)
          ∙ join (has_item items y.index) (y.index == item.index) (amount y) (λ e. ap (has_item items) (same_place y e) ∙ absent)
        where
          same_place : (z : ItemCopy) → (z.index == item.index) ≡ true → z.index ≡ item.index
          same_place z e = grind (arith, nat_tests)

module _ (instance : Instance) (node : KnapNode) (sound : IsNode instance node) where
  -- no item from a later place on is in the set
  pub none_from : (place : ℕ) → node.next ≤ place → AllByRecursion (λ item. has_item (items_of node) item.index ≡ false) (drop place (searched_copies instance))
  none_from place from =
      let same : node.next + (place - node.next) ≡ place = omega arith in
      subst (λ k. AllByRecursion (λ item. has_item (items_of node) item.index ≡ false) (drop k (searched_copies instance))) same
      (subst (λ ys. AllByRecursion (λ item. has_item (items_of node) item.index ≡ false) ys) (drop-drop (place - node.next) node.next (searched_copies instance))
      (AllByRecursion-drop (λ item. has_item (items_of node) item.index ≡ false) (place - node.next) (drop node.next (searched_copies instance)) sound.none_later))

  module _ (place : ℕ) (item : ItemCopy) (after : List ItemCopy) (next : IsNext instance node place item after) where
    none_here : AllByRecursion (λ y. has_item (items_of node) y.index ≡ false) (item ∷ after)
    none_here = subst (λ ys. AllByRecursion (λ y. has_item (items_of node) y.index ≡ false) ys) next.at (none_from place next.from)

    pub absent : has_item (items_of node) item.index ≡ false
    absent = none_here.0

    none_after : AllByRecursion (λ y. has_item (with_item (items_of node) item.index) y.index ≡ false) after
    none_after =
        AllByRecursion-weaker (λ y. (has_item (items_of node) y.index ≡ false) × IsOther item.index y) (λ y. has_item (with_item (items_of node) item.index) y.index ≡ false)
        (λ y both. has_added instance place item after next.at (items_of node) sound.size sound.limits y.index ∙ neither (has_item (items_of node) y.index) (y.index == item.index) both.0 both.1)
        after
        (AllByRecursion-both (λ y. has_item (items_of node) y.index ≡ false) (IsOther item.index) after none_here.1 (others_after instance place item after next.at))
      where
        neither : (a b : Bool) → a ≡ false → b ≡ false → (a || b) ≡ false
        neither a b x y = grind (arith, nat_tests)

    -- the set with the item is a node
    pub child-sound : IsNode instance (added instance (opened node) place item)
    child-sound =
        let profits = sum_by-added instance place item after next.at (λ y. y.profit) (items_of node) sound.size sound.limits absent in
        let weights = sum_by-added instance place item after next.at (λ y. y.weight) (items_of node) sound.size sound.limits absent in
        record {
          limits = sound.limits;
          last_small = index_small instance place item after next.at sound.limits;
          size = length-with_item (items_of node) item.index ∙ sound.size;
          within = place_within instance place item after next.at;
          profit_is = let e = sound.profit_is in omega (arith, profits, e);
          room_is = let e = sound.room_is in let f = next.fits in omega (arith, weights, e, f);
          breaking_is = refl;
          none_later = subst (λ ys. AllByRecursion (λ y. has_item (with_item (items_of node) item.index) y.index ≡ false) ys) (sym (rest_after instance place item after next.at)) none_after;
        }

-- a node that adds one item to another node's set
pub record IsAdded (instance : Instance) (node child : KnapNode) : Type 0 where
  pub place : ℕ
  pub item : ItemCopy
  pub after : List ItemCopy
  pub next : IsNext instance node place item after
  pub is : child ≡ added instance (opened node) place item

module _ (instance : Instance) (node : KnapNode) where
  -- what holds of a node's set with each item that fits, from a place on
  pub with_one_more-all : (P : KnapNode → Type 0) → ((place : ℕ) (item : ItemCopy) (after : List ItemCopy) → IsNext instance node place item after → P (added instance (opened node) place item)) → (place : ℕ) (items : List ItemCopy) → node.next ≤ place → drop place (searched_copies instance) ≡ items → AllByRecursion P (with_one_more instance (opened node) place items)
  with_one_more-all P step place [] from at = tt
  with_one_more-all P step place (item ∷ items) from at =
      let rest = with_one_more-all P step (place + 1) items (omega arith) (rest_after instance place item items at) in
      elim (is_next node.next place item && nat_le item.weight node.room)
      as (λ b. (is_next node.next place item && nat_le item.weight node.room) ≡ b → AllByRecursion P (if b then added instance (opened node) place item ∷ with_one_more instance (opened node) (place + 1) items else with_one_more instance (opened node) (place + 1) items)) [
        | true ↦ λ e. let both = and_parts (is_next node.next place item) (nat_le item.weight node.room) e in (step place item items (record { from = from; at = at; free = both.0; fits = leb-true item.weight node.room both.1 }), rest)
        | false ↦ λ e. rest
      ]
      refl

  pub children-added : AllByRecursion (IsAdded instance node) (children_of instance node)
  children-added =
      with_one_more-all (IsAdded instance node) (λ place item after next. record { place = place; item = item; after = after; next = next; is = refl })
      node.next (drop node.next (searched_copies instance)) (omega arith) refl

  pub child-at : (k : ℕ) (child : KnapNode) → slice_get (children_of instance node) k ≡ Some child → IsAdded instance node child
  child-at k child e = AllByRecursion-at (IsAdded instance node) (children_of instance node) k child e children-added

module _ (instance : Instance) where
  pub added-sound : (node child : KnapNode) → IsNode instance node → IsAdded instance node child → IsNode instance child
  added-sound node child sound a =
      subst (IsNode instance) (sym a.is) (child-sound instance node sound a.place a.item a.after a.next)

  added-rank : (node child : KnapNode) → IsAdded instance node child → rank_of instance child < rank_of instance node
  added-rank node child a =
      let within = place_within instance a.place a.item a.after a.next.at in
      let from = a.next.from in
      subst (λ c. rank_of instance c < rank_of instance node) (sym a.is) (omega (arith, within, from))

  -- the children of a node are nodes, and of less rank
  pub knapsack-ranked : IsRanked (IsNode instance) (children_of instance) (rank_of instance)
  knapsack-ranked = record {
    stays_sound = λ node sound. AllByRecursion-weaker (IsAdded instance node) (IsNode instance) (λ child a. added-sound node child sound a) (children_of instance node) (children-added instance node);
    rank_falls = λ node sound. AllByRecursion-weaker (IsAdded instance node) (λ child. rank_of instance child < rank_of instance node) (λ child a. added-rank node child a) (children_of instance node) (children-added instance node);
  }

  -- the empty set is a node
  pub root-sound : IsWithinLimits instance → IsNode instance (root_of instance)
  root-sound limits = record {
    limits = limits;
    last_small = tt;
    size = refl;
    within = omega arith;
    profit_is = sym (nothing (λ item. item.profit));
    room_is = let e = nothing (λ item. item.weight) in omega (arith, e);
    breaking_is = refl;
    none_later = AllByRecursion-all (λ item. has_item no_items item.index ≡ false) (λ item. has_item-no_items item.index) (searched_copies instance);
  }
    where
      nothing : (amount : ItemCopy → ℕ) → sum_by (amount_in amount no_items) (searched_copies instance) ≡ 0
      nothing amount =
          sum_by-none (amount_in amount no_items) (searched_copies instance)
          (AllByRecursion-all (λ item. amount_in amount no_items item ≡ 0) (λ item. ap (λ b. if b then amount item else 0) (has_item-no_items item.index)) (searched_copies instance))

  pub root_rank-small : IsWithinLimits instance → rank_of instance (root_of instance) ≤ 65535
  root_rank-small limits = let few = limits.few_copies in let e = length-searched_copies instance in omega (arith, few, e)

length-with_one_more : (instance : Instance) (kids : KnapKids) (place : ℕ) (items : List ItemCopy) → length (with_one_more instance kids place items) ≤ length items
length-with_one_more instance kids place [] = omega arith
length-with_one_more instance kids place (item ∷ items) =
    let rest = length-with_one_more instance kids (place + 1) items in
    elim (is_next kids.next place item && nat_le item.weight kids.room) as (λ b. length (if b then added instance kids place item ∷ with_one_more instance kids (place + 1) items else with_one_more instance kids (place + 1) items) ≤ length (item ∷ items)) [
      | true ↦ omega (arith, rest)
      | false ↦ omega (arith, rest)
    ]

-- a node has at most as many children as there are copies
pub children-few : (instance : Instance) (node : KnapNode) → IsNode instance node → length (children_of instance node) + 1 < 2 ^ 32
children-few instance node sound =
    let most = length-with_one_more instance (opened node) node.next (drop node.next (searched_copies instance)) in
    let rest = length-drop node.next (searched_copies instance) in
    let few = sound.limits.few_copies in
    let e = length-searched_copies instance in
    omega (arith, most, rest, few, e)

-- The tree of the lists of copies that can be carried. A node's copies stand in a set, each by its place in the order in which
-- they are tried.
use Rattle.std.specs.Prelude.{◌≡◌, ℕ, ◌+◌, ◌-◌, ◌*◌, ◌/◌, ◌<◌, ◌≤◌, Bool, false, ◌&&◌, ◌||◌, ◌==◌, List, [], ◌∷◌, length, drop, sum_by, slice_index_or, nat_le, Option, Some, None, IfSome, if◌then◌else◌}
use Rattle.std.specs.List.{AllByRecursion}
use Rattle.yew_knap.specs.declared.item_sets.ItemSet.{ItemSet}
use Rattle.yew_knap.specs.declared.knapsack.Item.{Item}
use Rattle.yew_knap.specs.declared.nodes.KnapNode.{KnapNode}
use Rattle.yew_knap.specs.declared.nodes.KnapKids.{KnapKids}
use Rattle.yew_knap.specs.declared.copies.ItemCopy.{ItemCopy}
use Rattle.yew_knap.specs.Instance.{Instance, IsWithinLimits}
use Rattle.yew_knap.specs.ItemSets.{no_items, has_item, with_item}
use Rattle.yew_knap.specs.Copies.{searched_copies}

-- a set with a copy, where there is one
abbrev pub with_last : ItemSet → Option ℕ → ItemSet
with_last items None = items
with_last items (Some k) = with_item items k

-- all copies of a node: the one added last and those before it
abbrev pub items_of : KnapNode → ItemSet
items_of node = with_last node.earlier node.last

-- a copy's amount where it is in a set, and 0 elsewhere
abbrev pub amount_in : (ItemCopy → ℕ) → ItemSet → ItemCopy → ℕ
amount_in amount items copy = if has_item items copy.index then amount copy else 0

-- 1 for a copy of the item at this place of the file, and 0 for another
abbrev pub one_of : ℕ → ItemCopy → ℕ
one_of item copy = if copy.item == item then 1 else 0

-- how many of the copies in a set are of each of these items, the first of which stands at a place of the file
abbrev pub counts_from : List ItemCopy → ItemSet → ℕ → List Item → List ℕ
counts_from copies chosen place [] = []
counts_from copies chosen place (item ∷ items) = sum_by (amount_in (one_of place) chosen) copies ∷ counts_from copies chosen (place + 1) items

-- how many copies of each item of the file are in a set
abbrev pub counts_in : Instance → ItemSet → List ℕ
counts_in instance chosen = counts_from (searched_copies instance) chosen 0 instance.items

-- the chosen copies of a node, per item in the order of the file
abbrev pub chosen_of : Instance → KnapNode → List ℕ
chosen_of instance node = counts_in instance (items_of node)

-- the place of the first copy that does not fit where those of a list, which begins at a place, are taken in order while
-- they fit, and the place behind the list where all of them fit
abbrev pub breaking_place : ℕ → ℕ → List ItemCopy → ℕ
breaking_place room place [] = place
breaking_place room place (item ∷ items) = if nat_le item.weight room then breaking_place (room - item.weight) (place + 1) items else place

-- no copy
abbrev pub root_of : Instance → KnapNode
root_of instance = record { profit = 0; room = instance.capacity; next = 0; breaking = breaking_place instance.capacity 0 (searched_copies instance); earlier = no_items; last = None }

-- the copy at a place, and a blank one past the end
abbrev pub item_of : List ItemCopy → ℕ → ItemCopy
item_of items place = slice_index_or items place (record { profit = 0; weight = 0; item = 0; turn = 0; index = 0 })

-- a set with the copy at a place of the searched order
abbrev pub added : Instance → KnapKids → ℕ → ItemCopy → KnapNode
added instance kids place item = record {
  profit = kids.profit + item.profit;
  room = kids.room - item.weight;
  next = place + 1;
  breaking = breaking_place (kids.room - item.weight) (place + 1) (drop (place + 1) (searched_copies instance));
  earlier = kids.chosen;
  last = Some item.index;
}

-- The copy may be the next one: it is at the place where the choice begins, or the first copy of its item. So the copies of an
-- item are chosen in their order, and none is left out before one that is chosen.
abbrev pub is_next : ℕ → ℕ → ItemCopy → Bool
is_next begin place copy = place == begin || copy.turn == 0

-- the sets with one more copy, of those from a place on that may be the next one and fit
abbrev pub with_one_more : Instance → KnapKids → ℕ → List ItemCopy → List KnapNode
with_one_more instance kids place [] = []
with_one_more instance kids place (item ∷ items) = if is_next kids.next place item && nat_le item.weight kids.room then added instance kids place item ∷ with_one_more instance kids (place + 1) items else with_one_more instance kids (place + 1) items

-- those that a generator has still to give
abbrev pub remaining_of : Instance → KnapKids → List KnapNode
remaining_of instance kids = with_one_more instance kids kids.next (drop kids.next (searched_copies instance))

-- a node's generator before it gave any: the copy added last is among the others
abbrev pub opened : KnapNode → KnapKids
opened node = record { profit = node.profit; room = node.room; next = node.next; breaking = node.breaking; chosen = items_of node }

-- the sets with one more copy, that fits: the next one of the item added last, or the first one of an item after that
abbrev pub children_of : Instance → KnapNode → List KnapNode
children_of instance node = remaining_of instance (opened node)

-- the number of copies that are not chosen of the item added last and of the items after it
abbrev pub rank_of : Instance → KnapNode → ℕ
rank_of instance node = length (searched_copies instance) - node.next

-- the total profit, plus 1, so that the empty set is an answer too
abbrev pub worth_of : Instance → KnapNode → ℕ
worth_of instance node = node.profit + 1

-- Dantzig's bound on what the copies of a list add within a room: each copy while it fits, and then, of the first one
-- that does not fit, the whole part of its profit times the room left divided by its weight
abbrev pub dantzig : ℕ → List ItemCopy → ℕ
dantzig room [] = 0
dantzig room (item ∷ items) = if nat_le item.weight room then item.profit + dantzig (room - item.weight) items else item.profit * room / item.weight

abbrev pub bound_of : Instance → KnapNode → ℕ
bound_of instance node = node.profit + dantzig node.room (drop node.next (searched_copies instance)) + 1

-- the node's numbers and places are those of its set, and no copy from its next place on is in the set
pub record IsNode (instance : Instance) (node : KnapNode) : Type 0 where
  pub limits : IsWithinLimits instance
  pub last_small : IfSome node.last (λ k. k < 256)
  pub size : length (items_of node).words ≡ 4
  pub within : node.next ≤ length (searched_copies instance)
  pub profit_is : node.profit ≡ sum_by (amount_in (λ item. item.profit) (items_of node)) (searched_copies instance)
  pub room_is : node.room + sum_by (amount_in (λ item. item.weight) (items_of node)) (searched_copies instance) ≡ instance.capacity
  pub breaking_is : node.breaking ≡ breaking_place node.room node.next (drop node.next (searched_copies instance))
  pub none_later : AllByRecursion (λ item. has_item (items_of node) item.index ≡ false) (drop node.next (searched_copies instance))

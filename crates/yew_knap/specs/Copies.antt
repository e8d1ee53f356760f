-- The copies of the items in the order in which they are tried: item by item, copy by copy.
use Rattle.std.specs.Prelude.{ℕ, zero, suc, ◌+◌, List, [], ◌∷◌, ◌++◌}
use Rattle.yew_knap.specs.declared.copies.ItemCopy.{ItemCopy}
use Rattle.yew_knap.specs.declared.order.Numbered.{Numbered}
use Rattle.yew_knap.specs.Instance.{Instance}
use Rattle.yew_knap.specs.SearchedOrder.{searched_order}

-- so many copies of an item, where others of it come before these, and others of all items
abbrev pub copies_from : Numbered → ℕ → ℕ → ℕ → List ItemCopy
copies_from item turn index zero = []
copies_from item turn index (suc left) = record { profit = item.profit; weight = item.weight; item = item.index; turn = turn; index = index } ∷ copies_from item (turn + 1) (index + 1) left

-- all copies of each of these items, where others come before these
abbrev pub all_copies : ℕ → List Numbered → List ItemCopy
all_copies index [] = []
all_copies index (item ∷ items) = copies_from item 0 index item.copies ++ all_copies (index + item.copies) items

-- the copies of an instance's items in the order in which they are tried
abbrev pub searched_copies : Instance → List ItemCopy
searched_copies instance = all_copies 0 (searched_order instance)

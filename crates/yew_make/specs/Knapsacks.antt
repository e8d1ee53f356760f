-- The knapsack instance of a seed and a size.
use Rattle.std.specs.Prelude.{ℕ, ◌+◌, ◌*◌, ◌/◌, List, [], ◌∷◌, length, map, sum_by}
use Rattle.std.specs.List.{range_with_len}
use Rattle.yew_knap.specs.declared.knapsack.Item.{Item}
use Rattle.yew_knap.specs.Instance.{Instance}
use Rattle.yew_knap.specs.declared.form.Form.TheVariants.{Pairs}
use Rattle.yew_knap.specs.Files.{item_numbers}
use Rattle.yew_make.specs.declared.knapsack.MadeItem.{MadeItem}
use Rattle.yew_make.specs.Draws.{first_state, weight_from}
use Rattle.yew_knap.specs.Rows.{row_lines}

-- Item number i, counted from 0: its profit is the weight of one draw, and its weight is the weight of the draw after that.
-- There is one copy of it.
abbrev pub item_from : ℕ → ℕ → Item
item_from state i = record { profit = weight_from state (2 * i); weight = weight_from state (2 * i + 1); copies = 1 }

abbrev pub items_from : ℕ → ℕ → List Item
items_from state size = map (item_from state) (range_with_len 0 size)

-- the items of a seed
abbrev pub made_items : ℕ → ℕ → List Item
made_items seed size = items_from (first_state seed) size

-- what can be carried: the whole part of half the weight of all items
abbrev pub half_weight : List Item → ℕ
half_weight items = sum_by (λ item. item.weight) items / 2

abbrev pub instance_of : List Item → Instance
instance_of items = record { capacity = half_weight items; items = items }

abbrev pub made_knapsack : ℕ → ℕ → Instance
made_knapsack seed size = instance_of (made_items seed size)

-- the number of items and the capacity, and a row for each item
abbrev pub knapsack_rows : Instance → List (List ℕ)
knapsack_rows instance = (length instance.items ∷ instance.capacity ∷ []) ∷ map (item_numbers Pairs) instance.items

abbrev pub knapsack_text : Instance → List ℕ
knapsack_text instance = row_lines (knapsack_rows instance)

-- an item as the maker keeps it
abbrev pub item_of : MadeItem → Item
item_of item = record { profit = item.profit; weight = item.weight; copies = 1 }

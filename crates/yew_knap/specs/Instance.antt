-- What a knapsack problem is about.
use Rattle.std.specs.Prelude.{ℕ, ◌<◌, ◌≤◌, ◌^◌, List, length, sum_by}
use Rattle.std.specs.List.{AllByRecursion}
use Rattle.yew_knap.specs.declared.knapsack.Item.{Item}

-- the weight that can be carried, and the items in the order of the file
pub record Instance : Type 0 where
  pub capacity : ℕ
  pub items : List Item

-- an item whose profit and weight are within their limits
abbrev pub IsSmallItem : Item → Type 0
IsSmallItem item = (item.profit < 2 ^ 31) × (item.weight < 2 ^ 31)

-- how many copies there are of items together
abbrev pub copies_in : List Item → ℕ
copies_in items = sum_by (λ item. item.copies) items

-- an instance all of whose numbers are within their limits
pub record IsWithinLimits (instance : Instance) : Type 0 where
  pub few : length instance.items ≤ 256
  pub few_copies : copies_in instance.items ≤ 256
  pub light : instance.capacity < 2 ^ 40
  pub small : AllByRecursion IsSmallItem instance.items

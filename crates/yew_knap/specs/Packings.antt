-- What a knapsack can carry at best, over lists of numbers of copies.
use Rattle.std.specs.Prelude.{ℕ, ◌+◌, ◌*◌, Bool, true, false, ◌&&◌, List, [], ◌∷◌, nat_le}
use Rattle.yew_laws.specs.Optimum.{IsGreatest}
use Rattle.yew_knap.specs.declared.knapsack.Item.{Item}
use Rattle.yew_knap.specs.Instance.{Instance}

-- a number for each item, at most that of its copies
abbrev pub are_counts : List Item → List ℕ → Bool
are_counts [] [] = true
are_counts [] (count ∷ counts) = false
are_counts (item ∷ items) [] = false
are_counts (item ∷ items) (count ∷ counts) = nat_le count item.copies && are_counts items counts

-- what is of so many copies of each item
abbrev pub total_of : (Item → ℕ) → List Item → List ℕ → ℕ
total_of amount [] counts = 0
total_of amount (item ∷ items) [] = 0
total_of amount (item ∷ items) (count ∷ counts) = count * amount item + total_of amount items counts

-- the total profit of a list of numbers of copies
abbrev pub profit_of : Instance → List ℕ → ℕ
profit_of instance counts = total_of (λ item. item.profit) instance.items counts

-- the total weight of a list of numbers of copies
abbrev pub weight_of : Instance → List ℕ → ℕ
weight_of instance counts = total_of (λ item. item.weight) instance.items counts

-- a list of numbers of copies that can be carried
abbrev pub is_packing : Instance → List ℕ → Bool
is_packing instance counts = are_counts instance.items counts && nat_le (weight_of instance counts) instance.capacity

-- the greatest total profit of the lists that can be carried
abbrev pub IsBestProfit : Instance → ℕ → Type 0
IsBestProfit instance best = IsGreatest (is_packing instance) (profit_of instance) best

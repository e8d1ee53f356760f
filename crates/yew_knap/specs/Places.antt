-- What is known of the places of a list of copies.
use Rattle.std.specs.Prelude.{ℕ, ◌+◌, ◌-◌, ◌/◌, ◌^◌, List, [], ◌∷◌, sum_by, take, nat_lt, ◌==◌, if◌then◌else◌}
use Rattle.yew_knap.specs.declared.copies.ItemCopy.{ItemCopy}
use Rattle.yew_knap.specs.declared.places.Place.{Place}

-- the weight of the copies in front of a place
abbrev pub weight_before : List ItemCopy → ℕ → ℕ
weight_before items place = sum_by (λ item. item.weight) (take place items)

-- the least of a weight and the weights of copies
abbrev pub least_weight : ℕ → List ItemCopy → ℕ
least_weight least [] = least
least_weight least (item ∷ items) = least_weight (if nat_lt item.weight least then item.weight else least) items

-- the place of the first copy of the next item, where these stand from a place on, and the place behind them where there is none
abbrev pub next_item : ℕ → List ItemCopy → ℕ
next_item place [] = place
next_item place (item ∷ items) = if item.turn == 0 then place else next_item (place + 1) items

-- 2 ^ 64 - 1 divided by a weight, and 0 where there is no weight
abbrev pub reciprocal_of : ℕ → ℕ
reciprocal_of weight = if weight == 0 then 0 else (2 ^ 64 - 1) / weight

-- the place of a copy, where copies of this profit and weight stand in front and these behind
abbrev pub place_of : ℕ → ℕ → ItemCopy → List ItemCopy → Place
place_of profit weight item behind = record {
  profit_before = profit;
  weight_before = weight;
  weight_after = weight + item.weight;
  reciprocal = reciprocal_of item.weight;
  profit = item.profit;
  weight = item.weight;
  next_item = next_item (item.index + 1) behind;
  least_weight = least_weight item.weight behind;
}

-- the place behind all copies: one of no profit that is too heavy for every room
abbrev pub end_place : ℕ → ℕ → Place
end_place profit weight = record {
  profit_before = profit;
  weight_before = weight;
  weight_after = 2 ^ 64 - 1;
  reciprocal = reciprocal_of 1;
  profit = 0;
  weight = 1;
  next_item = 0;
  least_weight = 1;
}

-- the places of copies and of their end, where others of this profit and weight stand in front
abbrev pub all_places : ℕ → ℕ → List ItemCopy → List Place
all_places profit weight [] = end_place profit weight ∷ []
all_places profit weight (item ∷ items) = place_of profit weight item items ∷ all_places (profit + item.profit) (weight + item.weight) items

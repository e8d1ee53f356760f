-- What is said of the numbers of cities, place by place.
use Rattle.std.specs.Prelude.{◌≡◌, ℕ, ◌-◌, ◌<◌, ◌≤◌, not, List, length, filter, slice_index}
use Rattle.std.specs.List.{range_with_len}
use Rattle.yew_laws.specs.Sets.{contains}
use Rattle.yew_tsp.specs.Instance.{Instance, weight_between}

-- both directions between a city and each one before another weigh the same
abbrev pub IsRowSymmetric : Instance → ℕ → ℕ → Type 0
IsRowSymmetric instance city before = (other : ℕ) → 1 ≤ other → other < before → weight_between instance city other ≡ weight_between instance other city

-- the last of several cities
abbrev pub last_of : List ℕ → ℕ
last_of cities = slice_index cities (length cities - 1)

-- the cities that are not in a list
abbrev pub left_out : ℕ → List ℕ → List ℕ
left_out cities listed = filter (λ city. not (contains listed city)) (range_with_len 1 cities)

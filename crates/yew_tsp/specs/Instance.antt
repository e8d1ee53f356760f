-- What a problem of tours is about.
use Rattle.std.specs.Prelude.{◌≡◌, ℕ, ◌+◌, ◌-◌, ◌*◌, ◌<◌, ◌≤◌, ◌^◌, List, length, slice_index}
use Rattle.std.specs.List.{AllByRecursion}

-- the number of cities, which are numbered from 1, and the weights from each city to each, row by row
pub record Instance : Type 0 where
  pub cities : ℕ
  pub weights : List ℕ

-- the weight from one city to another
abbrev pub weight_between : Instance → ℕ → ℕ → ℕ
weight_between instance i j = slice_index instance.weights ((i - 1) * instance.cities + (j - 1))

-- an instance all of whose numbers are within their limits
pub record IsWithinLimits (instance : Instance) : Type 0 where
  pub several : 2 ≤ instance.cities
  pub few : instance.cities ≤ 60
  pub square : length instance.weights ≡ instance.cities * instance.cities
  pub small : AllByRecursion (λ weight. weight < 2 ^ 31) instance.weights

-- The length of the shortest tour.
use Rattle.std.specs.Prelude.{ℕ, ◌+◌, Bool, false, ◌&&◌, List, [], ◌∷◌, ◌++◌, length, ◌==◌}
use Rattle.yew_laws.specs.Optimum.{IsLeast}
use Rattle.yew_laws.specs.Sets.{are_different, are_within}
use Rattle.yew_tsp.specs.Instance.{Instance, weight_between}

abbrev pub begins_with_one : List ℕ → Bool
begins_with_one [] = false
begins_with_one (c ∷ cs) = c == 1

-- a list of all cities, each once, that begins with city 1
abbrev pub is_tour : Instance → List ℕ → Bool
is_tour instance cities = (length cities == instance.cities) && (begins_with_one cities && (are_within 1 instance.cities cities && are_different cities))

-- the sum of the steps from each of these cities to the next
abbrev pub way_length : Instance → List ℕ → ℕ
way_length instance [] = 0
way_length instance (c ∷ []) = 0
way_length instance (c ∷ d ∷ cs) = weight_between instance c d + way_length instance (d ∷ cs)

-- the sum of the steps of a tour, the step back to city 1 included
abbrev pub tour_length : Instance → List ℕ → ℕ
tour_length instance cities = way_length instance (cities ++ 1 ∷ [])

-- the weight of the last step along cities that begin with these two
abbrev pub step_behind : Instance → ℕ → ℕ → List ℕ → ℕ
step_behind instance c d [] = weight_between instance c d
step_behind instance c d (e ∷ cs) = step_behind instance d e cs

-- the weight of the last step along these cities, and 0 where there is no step
abbrev pub last_step : Instance → List ℕ → ℕ
last_step instance [] = 0
last_step instance (c ∷ []) = 0
last_step instance (c ∷ d ∷ cs) = step_behind instance c d cs

-- the least length of all tours
abbrev pub IsLeastLength : Instance → ℕ → Type 0
IsLeastLength instance least = IsLeast (is_tour instance) (tour_length instance) least

-- The tree of the lists of cities that begin with city 1.
use Rattle.std.specs.Prelude.{◌≡◌, ℕ, ◌+◌, ◌-◌, ◌*◌, ◌/◌, ◌%◌, ◌^◌, true, not, List, [], ◌∷◌, ◌++◌, length, take, map, filter, sum_by, min, replicate, slice_set, bit_and, ◌==◌, nat_le, if◌then◌else◌}
use Rattle.std.specs.Int.{bit_not, w64}
use Rattle.std.specs.List.{range_with_len}
use Rattle.yew_laws.specs.Sets.{contains, are_different, are_within}
use Rattle.yew_tsp.specs.declared.nodes.TourNode.{TourNode}
use Rattle.yew_tsp.specs.declared.nodes.TourKids.{TourKids}
use Rattle.yew_tsp.specs.Bits.{bits_of}
use Rattle.yew_tsp.specs.Instance.{Instance, IsWithinLimits, weight_between}
use Rattle.yew_tsp.specs.Routes.{begins_with_one, way_length, tour_length}

-- ---- the least weights

-- the least of these weights, and the greatest weight that is allowed where there is none
abbrev pub least_of : List ℕ → ℕ
least_of [] = 2147483647
least_of (w ∷ ws) = min w (least_of ws)

-- the other ones of these cities
abbrev pub others_in : ℕ → List ℕ → List ℕ
others_in city cities = filter (λ other. not (other == city)) cities

-- the least weight from a city to another city
abbrev pub least_weight : Instance → ℕ → ℕ
least_weight instance city = least_of (map (weight_between instance city) (others_in city (range_with_len 1 instance.cities)))

-- those of all cities in order
abbrev pub least_weights : Instance → List ℕ
least_weights instance = map (least_weight instance) (range_with_len 1 instance.cities)

-- by how much the weight from one city to another is above the least from the first
abbrev pub surplus : Instance → ℕ → ℕ → ℕ
surplus instance from to = weight_between instance from to - least_weight instance from

-- the one at a place of a table, in rows of 64 places for each city
abbrev pub surplus_at : Instance → ℕ → ℕ
surplus_at instance place = if nat_le (place % 64 + 1) instance.cities then surplus instance (place / 64 + 1) (place % 64 + 1) else 0

-- those of all cities in order
abbrev pub surpluses : Instance → List ℕ
surpluses instance = map (surplus_at instance) (range_with_len 0 (64 * instance.cities))

-- ---- nodes

-- the cities of a node's list, in order
abbrev pub cities_of : TourNode → List ℕ
cities_of node = take node.steps node.cities ++ node.last ∷ []

-- the cities that are not in the list, rising
abbrev pub unvisited_of : Instance → TourNode → List ℕ
unvisited_of instance node = filter (λ city. not (contains (cities_of node) city)) (range_with_len 1 instance.cities)

-- a word without one of its bits
abbrev pub cleared : ℕ → ℕ → ℕ
cleared word place = bit_and word (bit_not w64 (1 * 2 ^ place % 2 ^ 64))

-- city 1 alone, of so many cities, with what its tours have at least
abbrev pub start_at : ℕ → ℕ → TourNode
start_at cities lower = record { cities = replicate 64 0; steps = 0; last = 1; unvisited = 2 ^ (cities + 1) - 4; lower = lower }

abbrev pub root_of : Instance → TourNode
root_of instance = start_at instance.cities (sum_by (least_weight instance) (range_with_len 1 instance.cities))

-- a node with its last city written behind the others
abbrev pub written : TourNode → TourNode
written node = record node { cities = slice_set node.cities node.steps node.last }

-- a list, all of whose cities are written, with one more city at its end
abbrev pub extended : Instance → TourNode → ℕ → TourNode
extended instance node city =
    record { cities = node.cities; steps = node.steps + 1; last = city; unvisited = cleared node.unvisited city; lower = node.lower + weight_between instance node.last city - least_weight instance node.last }

abbrev pub appended : Instance → TourNode → ℕ → TourNode
appended instance node city = extended instance (written node) city

-- the lists with one more city, by rising number of that city
abbrev pub children_of : Instance → TourNode → List TourNode
children_of instance node = map (appended instance node) (unvisited_of instance node)

-- those that a generator has still to give
abbrev pub remaining_of : Instance → TourKids → List TourNode
remaining_of instance kids = map (extended instance kids.parent) (bits_of kids.left)

-- the number of cities that are not in the list
abbrev pub rank_of : Instance → TourNode → ℕ
rank_of instance node = length (unvisited_of instance node)

-- 2^37 less the length of the tour where the list has all cities, and 0 elsewhere
abbrev pub worth_of : Instance → TourNode → ℕ
worth_of instance node = if length (cities_of node) == instance.cities then 2 ^ 37 - tour_length instance (cities_of node) else 0

-- no tour that begins with the list is shorter: the steps so far, and for each city from which no step was taken, the
-- last one and those that are not in the list, its least weight
abbrev pub lower_of : Instance → TourNode → ℕ
lower_of instance node = way_length instance (cities_of node) + sum_by (least_weight instance) (node.last ∷ unvisited_of instance node)

abbrev pub bound_of : Instance → TourNode → ℕ
bound_of instance node = 2 ^ 37 - lower_of instance node

-- different cities from city 1 on, and the node's numbers are those of its list
pub record IsNode (instance : Instance) (node : TourNode) : Type 0 where
  pub limits : IsWithinLimits instance
  pub size : length node.cities ≡ 64
  pub count : length (unvisited_of instance node) + (node.steps + 1) ≡ instance.cities
  pub begins : begins_with_one (cities_of node) ≡ true
  pub within : are_within 1 instance.cities (cities_of node) ≡ true
  pub different : are_different (cities_of node) ≡ true
  pub unvisited_is : bits_of node.unvisited ≡ unvisited_of instance node
  pub lower_is : node.lower ≡ lower_of instance node

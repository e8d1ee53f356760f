-- The bound of a list of cities, where what is still to be gone through is joined by its span at least.
use Rattle.std.specs.Prelude.{◌≡◌, ℕ, ◌+◌, ◌-◌, ◌≤◌, ◌^◌, Bool, true, List, [], ◌∷◌, ◌++◌, max, sum_by, ◌==◌, IsTrue, if◌then◌else◌}
use Rattle.yew_laws.specs.SearchTree.{SearchTree}
use Rattle.yew_span.specs.Growth.{span}
use Rattle.yew_span.specs.Span.{IsSpan, is_symmetric}
use Rattle.yew_tsp.specs.declared.nodes.TourNode.{TourNode}
use Rattle.yew_tsp.specs.Answers.{tours_tree}
use Rattle.yew_tsp.specs.Instance.{Instance}
use Rattle.yew_tsp.specs.Nodes.{least_weight, cities_of, unvisited_of, bound_of}
use Rattle.yew_tsp.specs.Routes.{is_tour, way_length, tour_length}

-- a city and city 1, each once
abbrev pub ends : ℕ → List ℕ
ends last = if last == 1 then 1 ∷ [] else last ∷ 1 ∷ []

-- the last city, city 1 and the cities that are not in the list
abbrev pub still_to_join : Instance → TourNode → List ℕ
still_to_join instance node = ends node.last ++ unvisited_of instance node

-- the least weights from the cities from which no step was taken
abbrev pub least_rest : Instance → TourNode → ℕ
least_rest instance node = sum_by (least_weight instance) (node.last ∷ unvisited_of instance node)

-- 2^37 less the length so far and less the greater of the rest and the span
abbrev pub bound_with : Instance → TourNode → ℕ → ℕ
bound_with instance node spanned = 2 ^ 37 - way_length instance (cities_of node) - max (least_rest instance node) spanned

-- the bound of the tours, and where the weights are symmetric the one with the span
abbrev pub spanned_bound : Bool → Instance → TourNode → ℕ
spanned_bound symmetric instance node = if symmetric then bound_with instance node (span instance (still_to_join instance node)) else bound_of instance node

-- the tree of the tours, with that bound
abbrev pub spanned_tree : Bool → Instance → SearchTree TourNode
spanned_tree symmetric instance = record (tours_tree instance) { bound = spanned_bound symmetric instance }

-- the one that is searched of an instance
abbrev pub span_tree : Instance → SearchTree TourNode
span_tree instance = spanned_tree (is_symmetric instance) instance

-- The bound is 2^37 less the length so far and less the greater of the inner bound's rest and the least weight that joins what is still
-- to be joined.
abbrev pub BoundIs : Instance → TourNode → Type 0
BoundIs instance node = (spanned : ℕ) → IsSpan instance (still_to_join instance node) spanned → spanned_bound true instance node ≡ bound_with instance node spanned

-- no tour that begins with the list is shorter than the length so far and that least weight
abbrev pub IsLowerLength : Instance → TourNode → Type 0
IsLowerLength instance node = (spanned : ℕ) → IsSpan instance (still_to_join instance node) spanned
    → (rest : List ℕ) → IsTrue (is_tour instance (cities_of node ++ rest)) → way_length instance (cities_of node) + spanned ≤ tour_length instance (cities_of node ++ rest)

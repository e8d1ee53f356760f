-- A set of joined cities that takes in the nearest of the others, one at a time. Which weight they are joined by is said in
-- `Span`; that this is the least one is said in `SpanLaws`.
use Rattle.std.specs.Prelude.{ℕ, ◌+◌, Bool, not, ◌==◌, List, [], ◌∷◌, length, map, filter, min, nat_lt, if◌then◌else◌}
use Rattle.std.proofs.Common.{zero, suc}
use Rattle.yew_span.specs.declared.growing.Outside.{Outside}
use Rattle.yew_tsp.specs.Instance.{Instance, weight_between}

-- the nearer of two cities outside, and the first where both are as near
abbrev pub nearer : Outside → Outside → Outside
nearer best other = if nat_lt other.near best.near then other else best

-- the nearest of these
abbrev pub nearest : Outside → List Outside → Outside
nearest best [] = best
nearest best (other ∷ others) = nearest (nearer best other) others

-- the cities outside but for this one
abbrev pub is_left : Outside → Outside → Bool
is_left taken other = not (other.city == taken.city)

-- how near a city outside is, where this one is taken in
abbrev pub updated : Instance → Outside → Outside → Outside
updated instance taken other = record { city = other.city; near = min other.near (weight_between instance taken.city other.city) }

-- the cities outside, where this one is taken in
abbrev pub left_over : Instance → Outside → List Outside → List Outside
left_over instance taken others = map (updated instance taken) (filter (is_left taken) others)

-- what it weighs to take in so many, the nearest first
abbrev pub grown : Instance → ℕ → List Outside → ℕ
grown instance zero others = 0
grown instance (suc count) [] = 0
grown instance (suc count) (first ∷ others) =
    (nearest first others).near + grown instance count (left_over instance (nearest first others) (first ∷ others))

-- a city outside of a single one
abbrev pub beside : Instance → ℕ → ℕ → Outside
beside instance start city = record { city = city; near = weight_between instance start city }

-- what it weighs to take in all cities, from the first one on
abbrev pub span : Instance → List ℕ → ℕ
span instance [] = 0
span instance (start ∷ cities) = grown instance (length cities) (map (beside instance start) cities)

-- The tree of partial maps: a node is the list of the images of the first vertices of the searched order.
use Rattle.std.specs.Prelude.{ℕ, ◌-◌, ◌<◌, ◌≤◌, Bool, not, ◌&&◌, ◌||◌, List, [], ◌∷◌, ◌++◌, length, map, filter, drop, slice_index, IsTrue, nat_le, ◌==◌, if◌then◌else◌}
use Rattle.std.specs.List.{list_all, list_any, position_or_len, range_with_len}
use Rattle.yew_laws.specs.SearchTree.{SearchTree}
use Rattle.yew_laws.specs.Sets.{contains}
use Rattle.yew_lad.specs.declared.profiles.Profile.{Profile}
use Rattle.yew_lad.specs.Digraphs.{GraphPair, IsWithinLimits, vertex_count, vertices_of, is_arc}
use Rattle.yew_lad.specs.SearchedOrder.{profile_of, searched_order}

-- the pattern's vertex at a place of the searched order
abbrev pub vertex_at : GraphPair → ℕ → ℕ
vertex_at pair place = slice_index (searched_order pair.pattern) place

-- a target vertex has a loop where the pattern vertex has one, and at least as many other successors and predecessors
abbrev pub has_room : Profile → Profile → Bool
has_room own image = (not own.looped || image.looped) && nat_le own.successors image.successors && nat_le own.predecessors image.predecessors

-- the arcs between a pattern vertex u, which has an image, and v are kept where v goes to t
abbrev pub keeps_arcs : GraphPair → ℕ → ℕ → ℕ → ℕ → Bool
keeps_arcs pair u image v t = (not (is_arc pair.pattern u v) || is_arc pair.target image t) && (not (is_arc pair.pattern v u) || is_arc pair.target t image)

-- every arc between v and the mapped vertices is kept where v goes to t
abbrev pub keeps_all : GraphPair → List ℕ → ℕ → ℕ → Bool
keeps_all pair images v t = list_all (λ place. keeps_arcs pair (vertex_at pair place) (slice_index images place) v t) (range_with_len 0 (length images))

-- a candidate for a pattern vertex: a target vertex that is unused, has room for it, and keeps every arc to and from
-- mapped vertices
unfoldable pub is_candidate : GraphPair → List ℕ → ℕ → ℕ → Bool
is_candidate pair images v t = not (contains images t) && has_room (profile_of pair.pattern v) (profile_of pair.target t) && keeps_all pair images v t

-- the candidates for a pattern vertex, rising
abbrev pub candidates_of : GraphPair → List ℕ → ℕ → List ℕ
candidates_of pair images v = filter (is_candidate pair images v) (vertices_of pair.target)

-- the vertices that are not mapped yet, in the searched order
abbrev pub unmapped_of : GraphPair → List ℕ → List ℕ
unmapped_of pair images = drop (length images) (searched_order pair.pattern)

-- one more vertex goes to t
abbrev pub with_image : List ℕ → ℕ → List ℕ
with_image images t = images ++ t ∷ []

-- the first of these vertices goes to each of its candidates
abbrev pub mapping_first : GraphPair → List ℕ → List ℕ → List (List ℕ)
mapping_first pair images [] = []
mapping_first pair images (v ∷ vs) = map (with_image images) (candidates_of pair images v)

-- the next vertex goes to each of its candidates, by rising number
abbrev pub children_of : GraphPair → List ℕ → List (List ℕ)
children_of pair images = mapping_first pair images (unmapped_of pair images)

-- no vertex is mapped
abbrev pub root_of : GraphPair → List ℕ
root_of pair = []

-- the number of vertices that are not mapped yet
abbrev pub rank_of : GraphPair → List ℕ → ℕ
rank_of pair images = vertex_count pair.pattern - length images

-- all vertices are mapped
abbrev pub is_whole : GraphPair → List ℕ → Bool
is_whole pair images = length images == vertex_count pair.pattern

-- 1 for a whole map
abbrev pub worth_of : GraphPair → List ℕ → ℕ
worth_of pair images = if is_whole pair images then 1 else 0

-- a vertex has a candidate
abbrev pub has_candidate : GraphPair → List ℕ → ℕ → Bool
has_candidate pair images v = list_any (is_candidate pair images v) (vertices_of pair.target)

-- 0 where some vertex that is not mapped has no candidate, and else 1
abbrev pub bound_of : GraphPair → List ℕ → ℕ
bound_of pair images = if list_all (has_candidate pair images) (unmapped_of pair images) then 1 else 0

-- t is a vertex of the target, and was a candidate for the vertex that is next after these images
pub record IsNext (pair : GraphPair) (images : List ℕ) (t : ℕ) : Type 0 where
  pub vertex : t < vertex_count pair.target
  pub candidate : IsTrue (is_candidate pair images (vertex_at pair (length images)) t)

-- each of the further images was a candidate, after those before it
abbrev pub AreNext : GraphPair → List ℕ → List ℕ → Type 0
AreNext pair before [] = Unit {0}
AreNext pair before (t ∷ ts) = IsNext pair before t × AreNext pair (with_image before t) ts

-- the images of the first vertices, each of which was a candidate
pub record IsNode (pair : GraphPair) (images : List ℕ) : Type 0 where
  pub limits : IsWithinLimits pair
  pub within : length images ≤ vertex_count pair.pattern
  pub chosen : AreNext pair [] images

-- the place of a pattern vertex in the searched order
abbrev pub place_of : GraphPair → ℕ → ℕ
place_of pair v = position_or_len (λ u. u == v) (searched_order pair.pattern)

-- the images of the pattern's vertices from 0 on
abbrev pub images_of : GraphPair → List ℕ → List ℕ
images_of pair images = map (λ v. slice_index images (place_of pair v)) (vertices_of pair.pattern)

-- the tree that is searched
abbrev pub maps_tree : GraphPair → SearchTree (List ℕ)
maps_tree pair = record { root = root_of pair; children = children_of pair; rank = rank_of pair; worth = worth_of pair; bound = bound_of pair }

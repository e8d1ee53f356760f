-- Maps of a pattern into a target: subgraph isomorphisms, not induced.
use Rattle.std.specs.Prelude.{ℕ, Bool, not, ◌&&◌, ◌||◌, List, length, slice_index, IsTrue, nat_lt, ◌==◌}
use Rattle.std.specs.List.{list_all}
use Rattle.yew_laws.specs.Sets.{are_different}
use Rattle.yew_lad.specs.Digraphs.{GraphPair, vertex_count, vertices_of, is_arc}

-- where the pattern has an arc from u to v, the target has one between their images, loops included
abbrev pub keeps_arc : GraphPair → List ℕ → ℕ → ℕ → Bool
keeps_arc pair images u v = not (is_arc pair.pattern u v) || is_arc pair.target (slice_index images u) (slice_index images v)

-- The images of the pattern's vertices from 0 on are different vertices of the target, and keep each arc.
abbrev pub is_map : GraphPair → List ℕ → Bool
is_map pair images = (length images == vertex_count pair.pattern) && list_all (λ image. nat_lt image (vertex_count pair.target)) images && are_different images && list_all (λ u. list_all (keeps_arc pair images u) (vertices_of pair.pattern)) (vertices_of pair.pattern)

-- there is such a map
pub record HasMap (pair : GraphPair) : Type 0 where
  pub images : List ℕ
  pub is : IsTrue (is_map pair images)

-- Directed graphs. The vertices are numbered from 0; a vertex may be its own successor.
use Rattle.std.specs.Prelude.{ℕ, ◌≤◌, Bool, not, ◌&&◌, List, [], ◌==◌, length, filter, slice_index_or}
use Rattle.std.specs.List.{range_with_len}
use Rattle.yew_laws.specs.Sets.{contains}

-- the successors of each vertex, a rising list for each
pub record Digraph : Type 0 where
  pub successors : List (List ℕ)

abbrev pub vertex_count : Digraph → ℕ
vertex_count graph = length graph.successors

abbrev pub vertices_of : Digraph → List ℕ
vertices_of graph = range_with_len 0 (vertex_count graph)

abbrev pub successors_of : Digraph → ℕ → List ℕ
successors_of graph u = slice_index_or graph.successors u []

-- an arc from u to v
unfoldable pub is_arc : Digraph → ℕ → ℕ → Bool
is_arc graph u v = contains (successors_of graph u) v

-- an arc from u to another vertex v
abbrev pub is_other_arc : Digraph → ℕ → ℕ → Bool
is_other_arc graph u v = not (u == v) && is_arc graph u v

-- the successors and the predecessors of a vertex, itself not counted
abbrev pub other_successors : Digraph → ℕ → List ℕ
other_successors graph v = filter (λ u. is_other_arc graph v u) (vertices_of graph)

abbrev pub other_predecessors : Digraph → ℕ → List ℕ
other_predecessors graph v = filter (λ u. is_other_arc graph u v) (vertices_of graph)

-- a pattern, and the target in which it is looked for
pub record GraphPair : Type 0 where
  pub pattern : Digraph
  pub target : Digraph

-- at most 64 vertices in the pattern, and 1,024 in the target
pub record IsWithinLimits (pair : GraphPair) : Type 0 where
  pub pattern : vertex_count pair.pattern ≤ 64
  pub target : vertex_count pair.target ≤ 1024

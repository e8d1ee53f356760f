-- The arcs of a graph as bits of a table.
use Rattle.std.proofs.Common.{◌≡◌, ℕ, ◌<◌, ◌∙◌, [], ap, sym, arith}
use Rattle.std.proofs.lemmas.List.FromFn.{get_or-map-range_with_len, length-map-range_with_len}
use Rattle.yew_laws.specs.Sets.{contains}
use Rattle.yew_lad.specs.Bits.{BitTable, in_row, row_members, digraph_in}
use Rattle.yew_lad.specs.Digraphs.{Digraph, vertex_count, is_arc}
use Rattle.yew_lad.proofs.Ranges.{contains-filter}

module _ (n : ℕ) (table : BitTable) where
  pub vertex_count-in : vertex_count (digraph_in n table) ≡ n
  vertex_count-in = length-map-range_with_len (row_members table n) 0 n

  pub is_arc-in : (u v : ℕ) → u < n → v < n → is_arc (digraph_in n table) u v ≡ in_row table u v
  unfolding is_arc
  is_arc-in u v l m =
      ap (λ xs. contains xs v) (get_or-map-range_with_len (row_members table n) 0 n u u [] l (omega arith))
      ∙ contains-filter (in_row table u) 0 n v (omega arith) (omega arith)

-- a graph is one of as many vertices as its table has
pub size_is : (n : ℕ) (table : BitTable) (graph : Digraph) → digraph_in n table ≡ graph → n ≡ vertex_count graph
size_is n table graph is = sym (vertex_count-in n table) ∙ ap vertex_count is

pub arc_is : (n : ℕ) (table : BitTable) (graph : Digraph) → digraph_in n table ≡ graph → (u v : ℕ) → u < n → v < n → in_row table u v ≡ is_arc graph u v
arc_is n table graph is u v l m = sym (is_arc-in n table u v l m) ∙ ap (λ g. is_arc g u v) is

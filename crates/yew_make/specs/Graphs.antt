-- The graph of a seed and a size: different vertices are joined in both directions, or in none.
use Rattle.std.specs.Prelude.{ℕ, ◌%◌, Bool, false, ◌==◌, List, [], ◌∷◌, length, map, filter, nat_lt, get_or, if◌then◌else◌}
use Rattle.std.specs.List.{range_with_len}
use Rattle.yew_lad.specs.Digraphs.{Digraph}
use Rattle.yew_lad.specs.Files.{vertex_numbers}
use Rattle.yew_make.specs.Draws.{first_state, word_from}
use Rattle.yew_knap.specs.Rows.{row_lines}
use Rattle.yew_make.specs.Pairs.{pair_place}

-- whether a drawn word joins its pair
abbrev pub joins : ℕ → Bool
joins word = word % 4 == 0

-- whether u and v are joined, where `joined` says it of each pair by its place
abbrev pub are_joined : (ℕ → Bool) → ℕ → ℕ → ℕ → Bool
are_joined joined size u v = if nat_lt u v then joined (pair_place size u v) else (if nat_lt v u then joined (pair_place size v u) else false)

-- the successors of u, rising
abbrev pub successors_of : (ℕ → Bool) → ℕ → ℕ → List ℕ
successors_of joined size u = filter (are_joined joined size u) (range_with_len 0 size)

-- the successors of each vertex, from vertex 0 on
abbrev pub graph_of : (ℕ → Bool) → ℕ → List (List ℕ)
graph_of joined size = map (successors_of joined size) (range_with_len 0 size)

-- the graph where the pairs are joined by words drawn in the order of the pairs
abbrev pub graph_from : ℕ → ℕ → List (List ℕ)
graph_from state size = graph_of (λ place. joins (word_from state place)) size

-- whether the pair at a place is joined in the graph of a seed
abbrev pub is_joined : ℕ → ℕ → Bool
is_joined seed place = joins (word_from (first_state seed) place)

abbrev pub made_graph : ℕ → ℕ → List (List ℕ)
made_graph seed size = graph_from (first_state seed) size

abbrev pub made_digraph : ℕ → ℕ → Digraph
made_digraph seed size = record { successors = made_graph seed size }

-- the number of vertices, and for each vertex the number of its successors and the successors
abbrev pub graph_rows : List (List ℕ) → List (List ℕ)
graph_rows graph = (length graph ∷ []) ∷ map vertex_numbers graph

abbrev pub graph_text : List (List ℕ) → List ℕ
graph_text graph = row_lines (graph_rows graph)

-- what is kept of the pairs, by their places
abbrev pub kept : List Bool → ℕ → Bool
kept pairs place = get_or pairs place false

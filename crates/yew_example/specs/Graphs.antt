-- Graphs and their proper colourings.
use Rattle.std.specs.Prelude.{ℕ, ◌+◌, ◌≤◌, max, Bool, not, ◌&&◌, ◌==◌, nat_lt, List, [], ◌∷◌, length, slice_index, IsTrue}
use Rattle.std.specs.List.{list_all}
use Rattle.yew_example.specs.declared.graph.Graph.{Graph}

-- both ends of an edge have a colour, and it is the same; the colours are those of the vertices from 0 on
abbrev pub clashes : List ℕ → ℕ × ℕ → Bool
clashes colours edge = nat_lt edge.0 (length colours) && nat_lt edge.1 (length colours) && (slice_index colours edge.0 == slice_index colours edge.1)

-- no edge has two ends of one colour
abbrev pub is_proper : Graph → List ℕ → Bool
is_proper graph colours = list_all (λ edge. not (clashes colours edge)) graph.edges.now

-- each colour is one of so many, numbered from 0
abbrev pub are_below : ℕ → List ℕ → Bool
are_below number colours = list_all (λ colour. nat_lt colour number) colours

-- a proper colouring of all vertices with so many colours
abbrev pub is_colouring : Graph → ℕ → List ℕ → Bool
is_colouring graph number colours = (length colours == graph.vertices) && are_below number colours && is_proper graph colours

-- there is such a colouring
pub record HasColouring (graph : Graph) (number : ℕ) : Type 0 where
  pub colours : List ℕ
  pub is : IsTrue (is_colouring graph number colours)

-- the least number of colours among which all of these are
abbrev pub colours_used : List ℕ → ℕ
colours_used [] = 0
colours_used (colour ∷ colours) = max (colour + 1) (colours_used colours)

-- a colouring with as few colours as there is one: how many they are is the chromatic number of the graph
pub record IsLeastColouring (graph : Graph) (colours : List ℕ) : Type 0 where
  pub is : IsTrue (is_colouring graph (colours_used colours) colours)
  pub fewest : (number : ℕ) → HasColouring graph number → colours_used colours ≤ number

-- The tree of the proper colourings of the first vertices: a node is the list of their colours.
use Rattle.std.specs.Prelude.{ℕ, ◌+◌, ◌-◌, ◌≤◌, List, [], ◌∷◌, ◌++◌, length, map, filter, IsTrue, nat_lt, ◌==◌, if◌then◌else◌}
use Rattle.std.specs.List.{range_with_len}
use Rattle.yew_laws.specs.SearchTree.{SearchTree}
use Rattle.yew_example.specs.declared.graph.Graph.{Graph}
use Rattle.yew_example.specs.Graphs.{are_below, is_proper, colours_used}

-- the next vertex has this colour too
abbrev pub with_colour : List ℕ → ℕ → List ℕ
with_colour colours colour = colours ++ colour ∷ []

-- the next vertex gets each colour, from this one up, that no neighbour before it has
abbrev pub children_from : Graph → ℕ → List ℕ → ℕ → List (List ℕ)
children_from graph number colours low =
    if nat_lt (length colours) graph.vertices
    then map (with_colour colours) (filter (λ colour. is_proper graph (with_colour colours colour)) (range_with_len low (number - low)))
    else []

-- the children, by rising colour
abbrev pub children_of : Graph → ℕ → List ℕ → List (List ℕ)
children_of graph number colours = children_from graph number colours 0

-- how many vertices have no colour yet
abbrev pub rank_of : Graph → List ℕ → ℕ
rank_of graph colours = graph.vertices - length colours

-- where all vertices have a colour, the greater the fewer colours are used, and at least 1; otherwise 0, which is no answer
abbrev pub worth_of : Graph → ℕ → List ℕ → ℕ
worth_of graph number colours = if length colours == graph.vertices then number + 1 - colours_used colours else 0

-- further vertices never make the colours fewer
abbrev pub bound_of : ℕ → List ℕ → ℕ
bound_of number colours = number + 1 - colours_used colours

-- proper colours of the first vertices
pub record IsNode (graph : Graph) (number : ℕ) (colours : List ℕ) : Type 0 where
  pub within : length colours ≤ graph.vertices
  pub below : IsTrue (are_below number colours)
  pub proper : IsTrue (is_proper graph colours)

-- the tree that is searched
abbrev pub colouring_tree : Graph → ℕ → SearchTree (List ℕ)
colouring_tree graph number = record {
  root = [];
  children = children_of graph number;
  rank = rank_of graph;
  worth = worth_of graph number;
  bound = bound_of number;
}

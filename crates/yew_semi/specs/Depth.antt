-- The nodes of a tree at one depth.
use Rattle.std.specs.Prelude.{ℕ, List, map, filter, length, ◌==◌}
use Rattle.yew_laws.specs.Tree.{Member}

-- the nodes of the members whose path has this length, in preorder
abbrev pub nodes_at : {N : Type 0} → ℕ → List (Member N) → List N
nodes_at depth ms = map (λ m. m.node) (filter (λ m. length m.path == depth) ms)

-- Which tasks there are: the members of a tree, as data.
use Rattle.std.specs.Prelude.{ℕ, List, map, Contains}
use Rattle.yew_laws.specs.SearchTree.{SearchTree, preorder}
use Rattle.yew_laws.specs.declared.problem.Task.{Task}

-- paths, each with the node that stands there
abbrev pub Members : Type 0 → Type 0
Members N = List (List ℕ × N)

-- the paths and the nodes of a tree, in preorder
abbrev pub members_of : {N : Type 0} → SearchTree N → Members N
members_of t = map (λ m. (m.path, m.node)) (preorder t)

-- the task's node stands at the task's path
abbrev pub IsAmong : {N : Type 0} → Members N → Task N → Type 0
IsAmong members task = Contains members (task.path.numbers, task.node)

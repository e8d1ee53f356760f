-- The tree of a problem whose children are in the order of keys.
use Rattle.std.specs.Prelude.{ℕ, List, map, length}
use Rattle.yew_laws.specs.SearchTree.{SearchTree, preorder}
use Rattle.yew_calls.specs.KeyOrder.{by_key}

-- the tree with the children of each node by rising key
abbrev pub reordered_tree : {N : Type 0} → (N → ℕ) → SearchTree N → SearchTree N
reordered_tree key t = record { root = t.root; children = λ n. by_key key (t.children n); rank = t.rank; worth = t.worth; bound = t.bound }

-- the members of a tree, each as its node and its depth
abbrev pub nodes_with_depths : {N : Type 0} → SearchTree N → List (N × ℕ)
nodes_with_depths t = map (λ m. (m.node, length m.path)) (preorder t)

-- The tree that a search goes through, as plain functions, so that a table is a tree too.
use Rattle.std.specs.Prelude.{◌≡◌, ℕ, suc, List, [], ◌∷◌, ◌++◌, Option, Some, None}
use Rattle.std.specs.Option.{option_map}
use Rattle.yew_laws.specs.declared.problem.Problem.{Ghosts}
use Rattle.yew_laws.specs.Tree.{Member, tree, node_at, prefixed, paths}

-- the root, the children of a node in order, a number of levels that is enough below it, its worth and its bound
pub record SearchTree (N : Type 0) : Type 0 where
  pub root : N
  pub children : N → List N
  pub rank : N → ℕ
  pub worth : N → ℕ
  pub bound : N → ℕ

-- the tree of a problem
abbrev pub search_tree : {S N K : Type 0} → Ghosts S N K → S → SearchTree N
search_tree meaning problem = record { root = meaning.root problem; children = meaning.children problem; rank = meaning.rank problem; worth = meaning.worth problem; bound = meaning.bound problem }

-- paths that are numbered on from k
abbrev pub numbered : {N : Type 0} → List ℕ → ℕ → List N → List (List ℕ)
numbered path k [] = []
numbered path k (n ∷ ns) = (path ++ k ∷ []) ∷ numbered path (suc k) ns

module _ {N : Type 0} (t : SearchTree N) where
  -- the members of the tree in preorder
  abbrev pub preorder : List (Member N)
  preorder = tree t.children t.rank t.root

  -- the node at a path, if the tree has that path
  abbrev pub at_path : List ℕ → Option N
  at_path path = node_at t.children t.root path

  -- the worth of the node at a path, if there is one
  abbrev pub worth_at : List ℕ → Option ℕ
  worth_at path = option_map t.worth (at_path path)

  -- the bound of the node at a path, if there is one
  abbrev pub bound_at : List ℕ → Option ℕ
  bound_at path = option_map t.bound (at_path path)

  -- the paths at and below a node that stands at a path
  abbrev pub below_node : List ℕ → Option N → List (List ℕ)
  below_node path None = []
  below_node path (Some node) = paths (prefixed path (tree t.children t.rank node))

  -- the paths at and below a path, in preorder
  abbrev pub below : List ℕ → List (List ℕ)
  below path = below_node path (at_path path)

  -- the paths of the whole tree, in preorder
  abbrev pub tree_paths : List (List ℕ)
  tree_paths = below []

  -- the paths of the children of a node that stands at a path
  abbrev pub child_paths_of : List ℕ → Option N → List (List ℕ)
  child_paths_of path None = []
  child_paths_of path (Some node) = numbered path 0 (t.children node)

  -- the paths of the children of the node at a path, in order
  abbrev pub child_paths : List ℕ → List (List ℕ)
  child_paths path = child_paths_of path (at_path path)

-- a task of a problem: a sound node, with its path in the tree
pub record IsTask {S N K : Type 0} (meaning : Ghosts S N K) (problem : S) (path : List ℕ) (node : N) : Type 0 where
  pub is_sound : meaning.sound problem node
  pub found : node_at (meaning.children problem) (meaning.root problem) path ≡ Some node

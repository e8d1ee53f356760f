-- How the visits and the cuts of a whole search lie in its tree.
use Rattle.std.specs.Prelude.{List, [], ◌++◌, ℕ, Contains}
use Rattle.std.specs.List.{flat_map}
use Rattle.yew_laws.specs.Bag.{SameBag}
use Rattle.yew_laws.specs.SearchTree.{SearchTree, below, tree_paths}

-- the root is visited, and every path of the tree is visited once, or lies at or below one cut
pub record Cover {N : Type 0} (t : SearchTree N) (visited cut : List (List ℕ)) : Type 0 where
  pub root_visited : Contains visited []
  pub each_once : SameBag (visited ++ flat_map (below t) cut) (tree_paths t)

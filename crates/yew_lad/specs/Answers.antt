-- How the tree of partial maps answers whether there is a map.
use Rattle.std.specs.Prelude.{◌≡◌, ℕ, List, Contains, IsTrue, ◌↔◌}
use Rattle.yew_laws.specs.Tree.{Member}
use Rattle.yew_laws.specs.SearchTree.{preorder}
use Rattle.yew_laws.specs.Greatest.{Reach}
use Rattle.yew_lad.specs.Digraphs.{GraphPair}
use Rattle.yew_lad.specs.Maps.{is_map, HasMap}
use Rattle.yew_lad.specs.Nodes.{images_of, is_whole, maps_tree}

-- a member of the tree that is whole and gives these images
pub record IsFound (pair : GraphPair) (images : List ℕ) : Type 0 where
  pub member : Member (List ℕ)
  pub stands : Contains (preorder (maps_tree pair)) member
  pub whole : IsTrue (is_whole pair member.node)
  pub images_are : images_of pair member.node ≡ images

-- The whole members of the tree are the maps, each once. So a worth of 1 is reached exactly where there is a map.
pub record TreeMaps (pair : GraphPair) : Type 0 where
  pub each : (m : Member (List ℕ)) → Contains (preorder (maps_tree pair)) m → IsTrue (is_whole pair m.node) → IsTrue (is_map pair (images_of pair m.node))
  pub all : (images : List ℕ) → IsTrue (is_map pair images) → IsFound pair images
  pub once : (m other : Member (List ℕ)) → Contains (preorder (maps_tree pair)) m → Contains (preorder (maps_tree pair)) other → IsTrue (is_whole pair m.node) → IsTrue (is_whole pair other.node) → images_of pair m.node ≡ images_of pair other.node → m ≡ other
  pub reach : Reach (maps_tree pair) 1 ↔ HasMap pair

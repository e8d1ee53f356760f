-- How the tree of lists of cities answers the question of the shortest tour.
use Rattle.std.specs.Prelude.{◌≡◌, ◌≢◌, ℕ, ◌+◌, ◌-◌, ◌≤◌, ◌^◌, List, length, Contains, IsTrue}
use Rattle.yew_laws.specs.Tree.{Member}
use Rattle.yew_laws.specs.SearchTree.{SearchTree, preorder}
use Rattle.yew_laws.specs.Greatest.{greatest}
use Rattle.yew_tsp.specs.declared.nodes.TourNode.{TourNode}
use Rattle.yew_tsp.specs.Instance.{Instance}
use Rattle.yew_tsp.specs.Nodes.{cities_of, root_of, children_of, rank_of, worth_of, bound_of}
use Rattle.yew_tsp.specs.Routes.{is_tour, tour_length, IsLeastLength}

-- the tree that is searched
abbrev pub tours_tree : Instance → SearchTree TourNode
tours_tree instance = record { root = root_of instance; children = children_of instance; rank = rank_of instance; worth = worth_of instance; bound = bound_of instance }

-- a member of the tree whose list is this one
pub record IsFound (instance : Instance) (cities : List ℕ) : Type 0 where
  pub member : Member TourNode
  pub stands : Contains (preorder (tours_tree instance)) member
  pub cities_are : cities_of member.node ≡ cities

-- The members of the tree with all cities are the tours, each once, and the worth of each is 2^37 less its length; other
-- members have no worth. So the greatest worth is 2^37 less the least length of all tours.
pub record TreeTours (instance : Instance) : Type 0 where
  pub each : (m : Member TourNode) → Contains (preorder (tours_tree instance)) m → length (cities_of m.node) ≡ instance.cities → IsTrue (is_tour instance (cities_of m.node))
  pub all : (cities : List ℕ) → IsTrue (is_tour instance cities) → IsFound instance cities
  pub once : (m other : Member TourNode) → Contains (preorder (tours_tree instance)) m → Contains (preorder (tours_tree instance)) other → cities_of m.node ≡ cities_of other.node → m ≡ other
  pub worth : (m : Member TourNode) → Contains (preorder (tours_tree instance)) m → length (cities_of m.node) ≡ instance.cities → worth_of instance m.node + tour_length instance (cities_of m.node) ≡ 2 ^ 37
  pub others : (m : Member TourNode) → Contains (preorder (tours_tree instance)) m → length (cities_of m.node) ≢ instance.cities → worth_of instance m.node ≡ 0
  pub positive : 1 ≤ greatest (tours_tree instance)
  pub least : IsLeastLength instance (2 ^ 37 - greatest (tours_tree instance))

-- How the tree answers the question of the knapsack.
use Rattle.std.specs.Prelude.{◌≡◌, ℕ, ◌+◌, ◌-◌, ◌≤◌, List, Contains, IsTrue, ◌↔◌}
use Rattle.yew_laws.specs.Tree.{Member}
use Rattle.yew_laws.specs.SearchTree.{SearchTree, preorder}
use Rattle.yew_laws.specs.Greatest.{greatest, Reach}
use Rattle.yew_knap.specs.declared.nodes.KnapNode.{KnapNode}
use Rattle.yew_knap.specs.Instance.{Instance}
use Rattle.yew_knap.specs.Nodes.{chosen_of, root_of, children_of, rank_of, worth_of, bound_of}
use Rattle.yew_knap.specs.Packings.{profit_of, is_packing, IsBestProfit}

-- the tree that is searched
abbrev pub knapsack_tree : Instance → SearchTree KnapNode
knapsack_tree instance = record { root = root_of instance; children = children_of instance; rank = rank_of instance; worth = worth_of instance; bound = bound_of instance }

-- the node's copies can be carried, and their profit is the worth less 1
pub record IsPacked (instance : Instance) (node : KnapNode) : Type 0 where
  pub packs : IsTrue (is_packing instance (chosen_of instance node))
  pub worth : worth_of instance node ≡ profit_of instance (chosen_of instance node) + 1

-- a member of the tree with these numbers of copies
pub record IsFound (instance : Instance) (chosen : List ℕ) : Type 0 where
  pub member : Member KnapNode
  pub stands : Contains (preorder (knapsack_tree instance)) member
  pub chosen_is : chosen_of instance member.node ≡ chosen

-- numbers of copies that can be carried and whose profit meets a target
pub record IsMet (instance : Instance) (target : ℕ) : Type 0 where
  pub chosen : List ℕ
  pub packs : IsTrue (is_packing instance chosen)
  pub meets : target ≤ profit_of instance chosen

-- The lists of numbers of copies of the members of the tree are all lists that can be carried, each once. So the greatest worth is
-- that of the best profit, and a worth is reached exactly where the profit of some list meets the target.
pub record TreePacks (instance : Instance) : Type 0 where
  pub each : (m : Member KnapNode) → Contains (preorder (knapsack_tree instance)) m → IsPacked instance m.node
  pub all : (chosen : List ℕ) → IsTrue (is_packing instance chosen) → IsFound instance chosen
  pub once : (m other : Member KnapNode) → Contains (preorder (knapsack_tree instance)) m → Contains (preorder (knapsack_tree instance)) other → chosen_of instance m.node ≡ chosen_of instance other.node → m ≡ other
  pub positive : 1 ≤ greatest (knapsack_tree instance)
  pub best : IsBestProfit instance (greatest (knapsack_tree instance) - 1)
  pub reach : (target : ℕ) → Reach (knapsack_tree instance) (target + 1) ↔ IsMet instance target

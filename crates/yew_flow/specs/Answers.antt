-- How the tree of lists of jobs answers the question of the least makespan.
use Rattle.std.specs.Prelude.{◌≡◌, ◌≢◌, ℕ, ◌+◌, ◌-◌, ◌≤◌, ◌^◌, List, length, Contains, IsTrue}
use Rattle.yew_laws.specs.Tree.{Member}
use Rattle.yew_laws.specs.SearchTree.{SearchTree, preorder}
use Rattle.yew_laws.specs.Greatest.{greatest}
use Rattle.yew_flow.specs.declared.nodes.FlowNode.{FlowNode}
use Rattle.yew_flow.specs.Instance.{Instance}
use Rattle.yew_flow.specs.Nodes.{jobs_of, root_of, children_of, rank_of, worth_of, bound_of}
use Rattle.yew_flow.specs.Orders.{is_order, makespan, IsLeastMakespan}

-- the tree that is searched
abbrev pub orders_tree : Instance → SearchTree FlowNode
orders_tree instance = record { root = root_of instance; children = children_of instance; rank = rank_of instance; worth = worth_of instance; bound = bound_of instance }

-- a member of the tree whose list is this one
pub record IsFound (instance : Instance) (jobs : List ℕ) : Type 0 where
  pub member : Member FlowNode
  pub stands : Contains (preorder (orders_tree instance)) member
  pub jobs_are : jobs_of member.node ≡ jobs

-- The members of the tree with all jobs are the orders, each once, and the worth of each is 2^37 less its makespan; other
-- members have no worth. So the greatest worth is 2^37 less the least makespan of all orders.
pub record TreeOrders (instance : Instance) : Type 0 where
  pub each : (m : Member FlowNode) → Contains (preorder (orders_tree instance)) m → length (jobs_of m.node) ≡ instance.jobs → IsTrue (is_order instance (jobs_of m.node))
  pub all : (jobs : List ℕ) → IsTrue (is_order instance jobs) → IsFound instance jobs
  pub once : (m other : Member FlowNode) → Contains (preorder (orders_tree instance)) m → Contains (preorder (orders_tree instance)) other → jobs_of m.node ≡ jobs_of other.node → m ≡ other
  pub worth : (m : Member FlowNode) → Contains (preorder (orders_tree instance)) m → length (jobs_of m.node) ≡ instance.jobs → worth_of instance m.node + makespan instance (jobs_of m.node) ≡ 2 ^ 37
  pub others : (m : Member FlowNode) → Contains (preorder (orders_tree instance)) m → length (jobs_of m.node) ≢ instance.jobs → worth_of instance m.node ≡ 0
  pub positive : 1 ≤ greatest (orders_tree instance)
  pub least : IsLeastMakespan instance (2 ^ 37 - greatest (orders_tree instance))

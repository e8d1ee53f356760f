-- The tasks of a problem and the members of its tree.
use Rattle.std.proofs.Common.{◌≡◌, Some}
use Rattle.std.proofs.lemmas.List.Elements.{All-contains, All-from_recursion}
use Rattle.yew_laws.specs.SearchTree.{SearchTree, preorder, at_path}
use Rattle.yew_laws.specs.Tasks.{members_of, IsAmong}
use Rattle.yew_laws.specs.Tree.{IsRanked}
use Rattle.yew_laws.specs.declared.problem.Task.{Task}
use Rattle.yew_laws.proofs.Members.{AllByRecursion-map, AllByRecursion-both, Contains-map}
use Rattle.yew_laws.proofs.Trees.{tree-sound, tree-node_at, tree-contains}

module _ {N : Type 0} (t : SearchTree N) {sound : N → Type 0} (ranked : IsRanked sound t.children t.rank) (root : sound t.root) (task : Task N) where
  -- a node at its path is a member
  pub task-among : at_path t task.path.numbers ≡ Some task.node → IsAmong (members_of t) task
  task-among at = Contains-map (λ m. (m.path, m.node)) (preorder t) (record { path = task.path.numbers; node = task.node }) (tree-contains ranked task.path.numbers t.root task.node root at)

  -- and a member is sound, and stands at its path
  pub among-task : IsAmong (members_of t) task → sound task.node × (at_path t task.path.numbers ≡ Some task.node)
  among-task among =
      All-contains (λ p. sound p.1 × (at_path t p.0 ≡ Some p.1)) (members_of t) (task.path.numbers, task.node)
      (All-from_recursion (λ p. sound p.1 × (at_path t p.0 ≡ Some p.1)) (members_of t)
      (AllByRecursion-map (λ p. sound p.1 × (at_path t p.0 ≡ Some p.1)) (λ m. (m.path, m.node)) (preorder t)
      (AllByRecursion-both (λ m. sound m.node) (λ m. at_path t m.path ≡ Some m.node) (preorder t) (tree-sound ranked t.root root) (tree-node_at ranked t.root root))))
      among

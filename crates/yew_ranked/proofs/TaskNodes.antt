-- The node at the path of a task.
use Rattle.std.proofs.Common.{◌≡◌, ◌≢◌, List, ℕ, Option, Some, None, All, refl}
use Rattle.std.specs.Prelude.{IsSome}
use Rattle.std.specs.List.{AllByRecursion, Contains}
use Rattle.std.proofs.lemmas.List.Elements.{All-from_recursion, All-contains}
use Rattle.yew_laws.specs.SearchTree.{SearchTree, at_path, preorder}
use Rattle.yew_laws.specs.Tree.{Member, IsRanked}
use Rattle.yew_laws.proofs.Members.{AllByRecursion-both}
use Rattle.yew_laws.proofs.Trees.{tree-contains, tree-sound, tree-node_at}

module _ {N : Type 0} (t : SearchTree N) {sound : N → Type 0} (ranked : IsRanked sound t.children t.rank) (root : sound t.root) where
  -- a path of the tree is that of a member
  pub member-there : (p : List ℕ) → All (λ (m : Member N). m.path ≢ p) (preorder t) → IsSome (at_path t p) → ⊥
  member-there p none there = by (at_path t p) refl there
    where
      by : (o : Option N) → at_path t p ≡ o → IsSome o → ⊥
      by None e some = absurd (cc)
      by (Some n) e some = All-contains (λ (m : Member N). m.path ≢ p) (preorder t) (record { path = p; node = n }) none (tree-contains ranked p t.root n root e) refl

  -- a member is sound, and stands at its path
  pub member-task : (p : List ℕ) (n : N) → Contains (preorder t) (record { path = p; node = n }) → sound n × (at_path t p ≡ Some n)
  member-task p n among =
      All-contains (λ (m : Member N). sound m.node × (at_path t m.path ≡ Some m.node)) (preorder t) (record { path = p; node = n })
      (All-from_recursion (λ (m : Member N). sound m.node × (at_path t m.path ≡ Some m.node)) (preorder t)
      (AllByRecursion-both (λ (m : Member N). sound m.node) (λ (m : Member N). at_path t m.path ≡ Some m.node) (preorder t)
      (tree-sound ranked t.root root) (tree-node_at ranked t.root root)))
      among

-- Trees that agree at each node are the same.
use Rattle.std.proofs.Common.{◌≡◌, ℕ, List, [], ◌∷◌, ◌==◌, if◌then◌else◌, slice_get, Some, None, option_and_then, refl, ap, ap₂, sym, subst, ◌∙◌, max}
use Rattle.std.specs.List.{AllByRecursion}
use Rattle.std.specs.Option.{option_map}
use Rattle.yew_laws.specs.Greatest.{greatest_of, first_with, greatest, first_best}
use Rattle.yew_laws.specs.SearchTree.{SearchTree, preorder, at_path}
use Rattle.yew_laws.specs.Tree.{Member, forest, root_member, tree, node_at, IsRanked}
use Rattle.yew_laws.proofs.Members.{AllByRecursion-both, AllByRecursion-at}
use Rattle.yew_laws.proofs.Trees.{forest-agree, tree-unfolds, ranked_induction, tree-sound}
use Rattle.yew_calls.specs.SameTrees.{HasSameNodes}

module _ {N : Type 0} {sound other_sound : N → Type 0} (t u : SearchTree N) (ranked : IsRanked sound t.children t.rank) (other_ranked : IsRanked other_sound u.children u.rank) (same : HasSameNodes sound t u) where
  all-other : (n : N) → sound n → other_sound n → AllByRecursion other_sound (t.children n)
  all-other n s o = subst (AllByRecursion other_sound) (sym (same.children n s)) (other_ranked.stays_sound n o)

  abbrev HasSameTree : N → Type 0
  HasSameTree n = other_sound n → tree t.children t.rank n ≡ tree u.children u.rank n

  same-tree : (n : N) → sound n → HasSameTree n
  same-tree =
      ranked_induction ranked HasSameTree
      (λ n s known o.
      tree-unfolds ranked n s
      ∙ ap (λ ms. root_member n ∷ ms)
      (forest-agree (tree t.children t.rank) (tree u.children u.rank) (λ c. HasSameTree c × other_sound c) (λ c both. both.0 both.1) 0 (t.children n)
      (AllByRecursion-both HasSameTree other_sound (t.children n) known (all-other n s o))
      ∙ ap (forest (tree u.children u.rank) 0) (same.children n s))
      ∙ sym (tree-unfolds other_ranked n o))

  pub same-preorder : sound t.root → other_sound u.root → preorder t ≡ preorder u
  same-preorder s o =
      same-tree t.root s (subst other_sound (sym same.root) o)
      ∙ ap (tree u.children u.rank) same.root

  pub same-at : (path : List ℕ) (n : N) → sound n → other_sound n → node_at t.children n path ≡ node_at u.children n path
  same-at [] n s o = refl
  same-at (k ∷ ks) n s o =
      elim (slice_get (t.children n) k)
      as (λ found. slice_get (t.children n) k ≡ found → option_and_then (λ c. node_at t.children c ks) found ≡ option_and_then (λ c. node_at u.children c ks) found) [
        | None ↦ λ is. refl
        | Some c ↦ λ is.
            same-at ks c
            (AllByRecursion-at sound (t.children n) k c is (ranked.stays_sound n s))
            (AllByRecursion-at other_sound (t.children n) k c is (all-other n s o))
      ]
      refl
      ∙ ap (λ cs. option_and_then (λ c. node_at u.children c ks) (slice_get cs k)) (same.children n s)

  pub same-at_path : sound t.root → other_sound u.root → (path : List ℕ) → at_path t path ≡ at_path u path
  same-at_path s o path =
      same-at path t.root s (subst other_sound (sym same.root) o)
      ∙ ap (λ n. node_at u.children n path) same.root

  module _ (f g : N → ℕ) (agree : (n : N) → sound n → f n ≡ g n) where
    same-mapped : (path : List ℕ) (n : N) → sound n → option_map f (node_at t.children n path) ≡ option_map g (node_at t.children n path)
    same-mapped [] n s = ap Some (agree n s)
    same-mapped (k ∷ ks) n s =
        elim (slice_get (t.children n) k)
        as (λ found. slice_get (t.children n) k ≡ found → option_map f (option_and_then (λ c. node_at t.children c ks) found) ≡ option_map g (option_and_then (λ c. node_at t.children c ks) found)) [
          | None ↦ λ is. refl
          | Some c ↦ λ is. same-mapped ks c (AllByRecursion-at sound (t.children n) k c is (ranked.stays_sound n s))
        ]
        refl

    -- a number of the node at a path
    pub same-number_at : sound t.root → other_sound u.root → (path : List ℕ) → option_map f (at_path t path) ≡ option_map g (at_path u path)
    same-number_at s o path = same-mapped path t.root s ∙ ap (option_map g) (same-at_path s o path)

    greatest-agrees : (ms : List (Member N)) → AllByRecursion (λ m. sound m.node) ms → greatest_of f ms ≡ greatest_of g ms
    greatest-agrees [] all = refl
    greatest-agrees (m ∷ ms) all = ap₂ max (agree m.node all.0) (greatest-agrees ms all.1)

    first-agrees : (w : ℕ) (ms : List (Member N)) → AllByRecursion (λ m. sound m.node) ms → first_with f w ms ≡ first_with g w ms
    first-agrees w [] all = refl
    first-agrees w (m ∷ ms) all =
        ap₂ (λ b rest. if b then Some m.path else rest) (ap (λ x. x == w) (agree m.node all.0)) (first-agrees w ms all.1)

  pub same-greatest : sound t.root → other_sound u.root → greatest t ≡ greatest u
  same-greatest s o =
      greatest-agrees t.worth u.worth same.worth (preorder t) (tree-sound ranked t.root s)
      ∙ ap (greatest_of u.worth) (same-preorder s o)

  pub same-first_best : sound t.root → other_sound u.root → first_best t ≡ first_best u
  same-first_best s o =
      ap₂ (λ top first. if top == 0 then None else first) (same-greatest s o)
      (first-agrees t.worth u.worth same.worth (greatest t) (preorder t) (tree-sound ranked t.root s)
      ∙ ap₂ (first_with u.worth) (same-greatest s o) (same-preorder s o))

-- The lists of numbers of copies of the members of the tree are all lists that can be carried, each once.
use Rattle.std.proofs.Common.{◌≡◌, ℕ, ◌+◌, ◌-◌, ◌<◌, ◌≤◌, ◌∙◌, true, List, [], ◌∷◌, length, Some, nat_le, ap, ap₂, sym, subst, inl, inr, arith}
use Rattle.std.specs.List.{AllByRecursion, Contains, sum_by}
use Rattle.std.proofs.lemmas.Bool.{and_parts, cases_eq, cases_lt, leb-true}
use Rattle.std.proofs.lemmas.List.Elements.{All-contains, All-from_recursion}
use Rattle.std.proofs.lemmas.Option.{same_Some}
use Rattle.yew_laws.specs.Greatest.{greatest_of, greatest}
use Rattle.yew_laws.specs.SearchTree.{preorder}
use Rattle.yew_laws.specs.Tree.{Member, node_at, root_member, forest, tree}
use Rattle.yew_laws.proofs.Members.{Contains-head, Contains-tail}
use Rattle.yew_laws.proofs.Trees.{tree-contains, tree-node_at, tree-sound, tree-unfolds}
use Rattle.yew_knap.specs.declared.knapsack.Item.{Item}
use Rattle.yew_knap.specs.declared.nodes.KnapNode.{KnapNode}
use Rattle.yew_knap.specs.Answers.{knapsack_tree, IsPacked, IsFound, TreePacks}
use Rattle.yew_knap.specs.Copies.{searched_copies}
use Rattle.yew_knap.specs.Instance.{Instance, IsWithinLimits}
use Rattle.yew_knap.specs.NodeLaws.{knapsack-ranked, root-sound}
use Rattle.yew_knap.specs.Nodes.{amount_in, one_of, counts_from, chosen_of, root_of, children_of, worth_of, IsNode, items_of}
use Rattle.yew_knap.specs.Packings.{are_counts, profit_of, weight_of, is_packing, IsBestProfit}
use Rattle.yew_knap.proofs.Apart.{SameCounts, one_path}
use Rattle.yew_knap.proofs.Counts.{node-packed}
use Rattle.yew_knap.proofs.Wanted.{is_wanted, closed, weight-wanted, chosen-wanted}
use Rattle.yew_knap.proofs.Ways.{reaches}

-- a member that has the greatest worth
record Attained (worth : KnapNode → ℕ) (ms : List (Member KnapNode)) : Type 0 where
  pub member : Member KnapNode
  pub stands : Contains ms member
  pub is : worth member.node ≡ greatest_of worth ms

attained : (worth : KnapNode → ℕ) (m : Member KnapNode) (ms : List (Member KnapNode)) → Attained worth (m ∷ ms)
attained worth m [] = record { member = m; stands = Contains-head m []; is = omega arith }
attained worth m (x ∷ xs) =
    let rest = attained worth x xs in
    elim (cases_lt (worth m.node) (greatest_of worth (x ∷ xs))) [
      | inl less ↦ record { member = rest.member; stands = Contains-tail m (x ∷ xs) rest.member rest.stands; is = let e = rest.is in omega (arith, e, less) }
      | inr most ↦ record { member = m; stands = Contains-head m (x ∷ xs); is = omega (arith, most) }
    ]

none_above : (worth : KnapNode → ℕ) (g : ℕ) (ms : List (Member KnapNode)) → greatest_of worth ms ≤ g → AllByRecursion (λ m. worth m.node ≤ g) ms
none_above worth g [] l = tt
none_above worth g (m ∷ ms) l = (omega (arith, l), none_above worth g ms (omega (arith, l)))

module _ (instance : Instance) (limits : IsWithinLimits instance) where
  abbrev members : List (Member KnapNode)
  members = preorder (knapsack_tree instance)

  root : IsNode instance (root_of instance)
  root = root-sound instance limits

  member-all : (P : Member KnapNode → Type 0) → AllByRecursion P members → (m : Member KnapNode) → Contains members m → P m
  member-all P a m stands = All-contains P members m (All-from_recursion P members a) stands

  -- each member of the tree is a node
  pub member-sound : (m : Member KnapNode) → Contains members m → IsNode instance m.node
  member-sound = member-all (λ m. IsNode instance m.node) (tree-sound (knapsack-ranked instance) (root_of instance) root)

  member-at : (m : Member KnapNode) → Contains members m → node_at (children_of instance) (root_of instance) m.path ≡ Some m.node
  member-at =
      member-all (λ m. node_at (children_of instance) (root_of instance) m.path ≡ Some m.node) (tree-node_at (knapsack-ranked instance) (root_of instance) root)

  each-packed : (m : Member KnapNode) → Contains members m → IsPacked instance m.node
  each-packed m stands = node-packed instance m.node (member-sound m stands)

  all-found : (chosen : List ℕ) → is_packing instance chosen ≡ true → IsFound instance chosen
  all-found chosen packs =
      let both = and_parts (are_counts instance.items chosen) (nat_le (weight_of instance chosen) instance.capacity) packs in
      let light : weight_of instance chosen ≤ instance.capacity = leb-true (weight_of instance chosen) instance.capacity both.1 in
      let weight = weight-wanted instance chosen both.0 in
      let r = reaches instance (is_wanted chosen) (closed chosen) limits (omega (arith, weight, light)) in
      record {
        member = record { path = r.path; node = r.last };
        stands = tree-contains (knapsack-ranked instance) r.path (root_of instance) r.last root r.found;
        chosen_is = chosen-wanted instance chosen both.0 (items_of r.last) r.agrees;
      }

  same-from : (a b : KnapNode) (j : ℕ) (items : List Item) → counts_from (searched_copies instance) (items_of a) j items ≡ counts_from (searched_copies instance) (items_of b) j items → (k : ℕ) → j ≤ k → k < j + length items → sum_by (amount_in (one_of k) (items_of a)) (searched_copies instance) ≡ sum_by (amount_in (one_of k) (items_of b)) (searched_copies instance)
  same-from a b j [] e k l m = absurd (omega arith)
  same-from a b j (item ∷ items) e k l m =
      let heads : sum_by (amount_in (one_of j) (items_of a)) (searched_copies instance) ≡ sum_by (amount_in (one_of j) (items_of b)) (searched_copies instance) = cc in
      let rest : counts_from (searched_copies instance) (items_of a) (j + 1) items ≡ counts_from (searched_copies instance) (items_of b) (j + 1) items = cc in
      elim (cases_eq j k) [
        | inl same ↦ subst (λ i. sum_by (amount_in (one_of i) (items_of a)) (searched_copies instance) ≡ sum_by (amount_in (one_of i) (items_of b)) (searched_copies instance)) same heads
        | inr other ↦ same-from a b (j + 1) items rest k (omega arith) (omega arith)
      ]

  same-counts : (a b : KnapNode) → chosen_of instance a ≡ chosen_of instance b → SameCounts instance a b
  same-counts a b e k l = same-from a b 0 instance.items e k (omega arith) (omega arith)

  each-once : (m other : Member KnapNode) → Contains members m → Contains members other → chosen_of instance m.node ≡ chosen_of instance other.node → m ≡ other
  each-once m other stands also e =
      let paths : m.path ≡ other.path = one_path instance m.path other.path (root_of instance) m.node other.node root (member-at m stands) (member-at other also) (same-counts m.node other.node e) in
      let nodes : m.node ≡ other.node = same_Some m.node other.node (sym (member-at m stands) ∙ ap (node_at (children_of instance) (root_of instance)) paths ∙ member-at other also) in
      ap₂ (λ (p : List ℕ) (n : KnapNode). make p n) paths nodes
    where
      make : List ℕ → KnapNode → Member KnapNode
      make p n = record { path = p; node = n }

  not-above : (m : Member KnapNode) → Contains members m → worth_of instance m.node ≤ greatest (knapsack_tree instance)
  not-above =
      member-all (λ m. worth_of instance m.node ≤ greatest (knapsack_tree instance)) (none_above (worth_of instance) (greatest (knapsack_tree instance)) members (omega arith))

  best-member : Attained (worth_of instance) members
  best-member =
      subst (Attained (worth_of instance)) (sym (tree-unfolds (knapsack-ranked instance) (root_of instance) root))
      (attained (worth_of instance) (root_member (root_of instance)) (forest (tree (children_of instance) (knapsack_tree instance).rank) 0 (children_of instance (root_of instance))))

  found-worth : (chosen : List ℕ) → is_packing instance chosen ≡ true → profit_of instance chosen + 1 ≤ greatest (knapsack_tree instance)
  found-worth chosen packs =
      let f = all-found chosen packs in
      let w = (each-packed f.member f.stands).worth in
      let same = ap (profit_of instance) f.chosen_is in
      let most = not-above f.member f.stands in
      omega (arith, w, same, most)

  best-profit : IsBestProfit instance (greatest (knapsack_tree instance) - 1)
  best-profit =
      let b = best-member in
      let p = each-packed b.member b.stands in
      record {
        one = chosen_of instance b.member.node;
        passes = p.packs;
        attains = let w = p.worth in let e = b.is in omega (arith, w, e);
        others = λ chosen packs. let most = found-worth chosen packs in omega (arith, most);
      }

  -- the tree answers the question of the knapsack
  pub tree-packs : TreePacks instance
  tree-packs = record {
    each = each-packed;
    all = all-found;
    once = each-once;
    positive = let b = best-member in let e = b.is in omega (arith, e);
    best = best-profit;
    reach = λ target. (
      (λ r. let m = r.1 in let p = each-packed m (r.0, r.2, r.3) in let w = p.worth in let least = r.4 in record { chosen = chosen_of instance m.node; packs = p.packs; meets = omega (arith, w, least) }),
      (λ met. let f = all-found met.chosen met.packs in let w = (each-packed f.member f.stands).worth in let same = ap (profit_of instance) f.chosen_is in let least = met.meets in (f.stands.0, f.member, f.stands.1, f.stands.2, omega (arith, w, same, least))),
    );
  }

-- The members of the tree with all jobs are the orders, each once.
use Rattle.std.proofs.Common.{◌≡◌, ◌≢◌, ℕ, ◌+◌, ◌-◌, ◌≤◌, ◌<◌, ◌^◌, ◌∙◌, true, ◌&&◌, ◌==◌, List, [], ◌∷◌, length, Some, refl, ap, ap₂, sym, subst, inl, inr, arith}
use Rattle.std.specs.List.{AllByRecursion, Contains, range_with_len}
use Rattle.std.proofs.lemmas.Bool.{and_from, and_parts, cases_lt, cases_eq}
use Rattle.std.proofs.lemmas.Bool.Decides.{nat_tests}
use Rattle.std.proofs.lemmas.List.Elements.{All-contains, All-from_recursion}
use Rattle.std.proofs.lemmas.Option.{same_Some}
use Rattle.yew_laws.specs.Greatest.{greatest_of, greatest}
use Rattle.yew_laws.specs.SearchTree.{preorder}
use Rattle.yew_laws.specs.Sets.{are_different, are_within}
use Rattle.yew_laws.specs.Tree.{Member, node_at, root_member, forest, tree}
use Rattle.yew_laws.proofs.Members.{Contains-head, Contains-tail}
use Rattle.yew_laws.proofs.Trees.{tree-contains, tree-node_at, tree-sound, tree-unfolds}
use Rattle.yew_flow.specs.declared.nodes.FlowNode.{FlowNode}
use Rattle.yew_flow.specs.Answers.{orders_tree, IsFound, TreeOrders}
use Rattle.yew_flow.specs.BoundLaws.{span-small, worth-whole, worth-part}
use Rattle.yew_flow.specs.Instance.{Instance, IsWithinLimits}
use Rattle.yew_flow.specs.Lists.{filter-different, filter-every, length-range, range-all, within-all}
use Rattle.yew_flow.specs.NodeLaws.{orders-ranked, root-sound}
use Rattle.yew_flow.specs.Nodes.{jobs_of, root_of, children_of, worth_of, IsNode}
use Rattle.yew_flow.specs.Orders.{is_order, makespan, IsLeastMakespan}
use Rattle.yew_flow.proofs.Paths.{one_path, reaches}

-- a member that has the greatest worth
record Attained (worth : FlowNode → ℕ) (ms : List (Member FlowNode)) : Type 0 where
  pub member : Member FlowNode
  pub stands : Contains ms member
  pub is : worth member.node ≡ greatest_of worth ms

attained : (worth : FlowNode → ℕ) (m : Member FlowNode) (ms : List (Member FlowNode)) → Attained worth (m ∷ ms)
attained worth m [] = record { member = m; stands = Contains-head m []; is = omega arith }
attained worth m (x ∷ xs) =
    let rest = attained worth x xs in
    elim (cases_lt (worth m.node) (greatest_of worth (x ∷ xs))) [
      | inl less ↦ record { member = rest.member; stands = Contains-tail m (x ∷ xs) rest.member rest.stands; is = let e = rest.is in omega (arith, e, less) }
      | inr most ↦ record { member = m; stands = Contains-head m (x ∷ xs); is = omega (arith, most) }
    ]

none_above : (worth : FlowNode → ℕ) (g : ℕ) (ms : List (Member FlowNode)) → greatest_of worth ms ≤ g → AllByRecursion (λ m. worth m.node ≤ g) ms
none_above worth g [] l = tt
none_above worth g (m ∷ ms) l = (omega (arith, l), none_above worth g ms (omega (arith, l)))

-- ---- tests of orders

count_is : (a b : ℕ) → (a == b) ≡ true → a ≡ b
count_is a b e = grind (arith, nat_tests)

is_count : (a b : ℕ) → a ≡ b → (a == b) ≡ true
is_count a b e = grind (arith, nat_tests)

pub record IsOrder (instance : Instance) (jobs : List ℕ) : Type 0 where
  pub count : length jobs ≡ instance.jobs
  pub within : are_within 1 instance.jobs jobs ≡ true
  pub different : are_different jobs ≡ true

pub order-parts : (instance : Instance) (jobs : List ℕ) → is_order instance jobs ≡ true → IsOrder instance jobs
order-parts instance jobs h =
    let a = and_parts (length jobs == instance.jobs) (are_within 1 instance.jobs jobs && are_different jobs) h in
    let b = and_parts (are_within 1 instance.jobs jobs) (are_different jobs) a.1 in
    record { count = count_is (length jobs) instance.jobs a.0; within = b.0; different = b.1 }

pub order-from : (instance : Instance) (jobs : List ℕ) → IsOrder instance jobs → is_order instance jobs ≡ true
order-from instance jobs t =
    and_from (length jobs == instance.jobs) (are_within 1 instance.jobs jobs && are_different jobs)
    (is_count (length jobs) instance.jobs t.count)
    (and_from (are_within 1 instance.jobs jobs) (are_different jobs) t.within t.different)

-- the jobs by their numbers are an order
first-order : (instance : Instance) → IsOrder instance (range_with_len 1 instance.jobs)
first-order instance = record {
  count = length-range 1 instance.jobs;
  within = within-all 1 instance.jobs (range_with_len 1 instance.jobs) (range-all (λ k. (1 ≤ k) × (k ≤ instance.jobs)) 1 instance.jobs (λ k l m. (l, omega arith)));
  different =
      ap are_different (sym (filter-every (λ k. true) (range_with_len 1 instance.jobs) (range-all (λ k. true ≡ true) 1 instance.jobs (λ k l m. refl))))
      ∙ filter-different (λ k. true) 1 instance.jobs;
}

module _ (instance : Instance) (limits : IsWithinLimits instance) where
  abbrev members : List (Member FlowNode)
  members = preorder (orders_tree instance)

  root : IsNode instance (root_of instance)
  root = root-sound instance limits

  member-all : (P : Member FlowNode → Type 0) → AllByRecursion P members → (m : Member FlowNode) → Contains members m → P m
  member-all P a m stands = All-contains P members m (All-from_recursion P members a) stands

  -- each member of the tree is a node
  pub member-sound : (m : Member FlowNode) → Contains members m → IsNode instance m.node
  member-sound = member-all (λ m. IsNode instance m.node) (tree-sound (orders-ranked instance) (root_of instance) root)

  member-at : (m : Member FlowNode) → Contains members m → node_at (children_of instance) (root_of instance) m.path ≡ Some m.node
  member-at =
      member-all (λ m. node_at (children_of instance) (root_of instance) m.path ≡ Some m.node) (tree-node_at (orders-ranked instance) (root_of instance) root)

  pub node-orders : (node : FlowNode) → IsNode instance node → length (jobs_of node) ≡ instance.jobs → is_order instance (jobs_of node) ≡ true
  node-orders node sound count =
      order-from instance (jobs_of node) (record { count = count; within = sound.within; different = sound.different })

  pub node-worth : (node : FlowNode) → IsNode instance node → length (jobs_of node) ≡ instance.jobs → worth_of instance node + makespan instance (jobs_of node) ≡ 2 ^ 37
  node-worth node sound count =
      let worth = worth-whole instance node sound count in
      let small = span-small instance node sound in
      omega (arith, worth, small)

  pub node-others : (node : FlowNode) → IsNode instance node → length (jobs_of node) ≢ instance.jobs → worth_of instance node ≡ 0
  node-others node sound part = worth-part instance node sound part

  all-found : (jobs : List ℕ) → is_order instance jobs ≡ true → IsFound instance jobs
  all-found jobs h =
      let t = order-parts instance jobs h in
      let r = reaches instance jobs (root_of instance) root t.within t.different in
      record {
        member = record { path = r.path; node = r.last };
        stands = tree-contains (orders-ranked instance) r.path (root_of instance) r.last root r.found;
        jobs_are = r.list_is;
      }

  each-once : (m other : Member FlowNode) → Contains members m → Contains members other → jobs_of m.node ≡ jobs_of other.node → m ≡ other
  each-once m other stands also e =
      let paths : m.path ≡ other.path = one_path instance m.path other.path (root_of instance) m.node other.node root (member-at m stands) (member-at other also) e in
      let nodes : m.node ≡ other.node = same_Some m.node other.node (sym (member-at m stands) ∙ ap (node_at (children_of instance) (root_of instance)) paths ∙ member-at other also) in
      ap₂ (λ (p : List ℕ) (n : FlowNode). make p n) paths nodes
    where
      make : List ℕ → FlowNode → Member FlowNode
      make p n = record { path = p; node = n }

  not-above : (m : Member FlowNode) → Contains members m → worth_of instance m.node ≤ greatest (orders_tree instance)
  not-above =
      member-all (λ m. worth_of instance m.node ≤ greatest (orders_tree instance)) (none_above (worth_of instance) (greatest (orders_tree instance)) members (omega arith))

  best-member : Attained (worth_of instance) members
  best-member =
      subst (Attained (worth_of instance)) (sym (tree-unfolds (orders-ranked instance) (root_of instance) root))
      (attained (worth_of instance) (root_member (root_of instance)) (forest (tree (children_of instance) (orders_tree instance).rank) 0 (children_of instance (root_of instance))))

  -- an order is found, with 2 ^ 37 less its makespan
  found-worth : (jobs : List ℕ) → is_order instance jobs ≡ true → (2 ^ 37 ≤ greatest (orders_tree instance) + makespan instance jobs) × (makespan instance jobs < 2 ^ 37)
  found-worth jobs h =
      let f = all-found jobs h in
      let t = order-parts instance jobs h in
      let sound = member-sound f.member f.stands in
      let worth = node-worth f.member.node sound (ap length f.jobs_are ∙ t.count) in
      let same = ap (makespan instance) f.jobs_are in
      let most = not-above f.member f.stands in
      let small = span-small instance f.member.node sound in
      (omega (arith, worth, same, most), omega (arith, same, small))

  some-worth : 1 ≤ greatest (orders_tree instance)
  some-worth =
      let first = range_with_len 1 instance.jobs in
      let w = found-worth first (order-from instance first (first-order instance)) in
      omega (arith, w.0, w.1)

  least-span : IsLeastMakespan instance (2 ^ 37 - greatest (orders_tree instance))
  least-span =
      let b = best-member in
      let sound = member-sound b.member b.stands in
      let is = b.is in
      let some = some-worth in
      elim (cases_eq (length (jobs_of b.member.node)) instance.jobs) [
        | inl all ↦
            let worth = node-worth b.member.node sound all in
            record {
              one = jobs_of b.member.node;
              passes = node-orders b.member.node sound all;
              attains = omega (arith, worth, is);
              others = λ jobs h. let w = found-worth jobs h in omega (arith, w.0);
            }
        | inr part ↦ let none = node-others b.member.node sound part in absurd (omega (arith, none, is, some))
      ]

  -- the tree answers the question of the least makespan
  pub tree-orders : TreeOrders instance
  tree-orders = record {
    each = λ m stands count. node-orders m.node (member-sound m stands) count;
    all = all-found;
    once = each-once;
    worth = λ m stands count. node-worth m.node (member-sound m stands) count;
    others = λ m stands part. node-others m.node (member-sound m stands) part;
    positive = some-worth;
    least = least-span;
  }

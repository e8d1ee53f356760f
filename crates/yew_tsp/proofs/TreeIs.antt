-- The members of the tree with all cities are the tours, each once.
use Rattle.std.proofs.Common.{◌≡◌, ◌≢◌, ℕ, suc, ◌+◌, ◌-◌, ◌≤◌, ◌<◌, ◌^◌, ◌∙◌, true, ◌&&◌, ◌==◌, List, [], ◌∷◌, length, Some, refl, ap, ap₂, sym, subst, inl, inr, arith}
use Rattle.std.specs.List.{AllByRecursion, Contains, range_with_len}
use Rattle.std.proofs.lemmas.Bool.{and_from, and_parts, cases_lt, cases_eq}
use Rattle.std.proofs.lemmas.Bool.Decides.{nat_tests}
use Rattle.std.proofs.lemmas.List.Elements.{All-contains, All-from_recursion}
use Rattle.std.proofs.lemmas.Option.{same_Some}
use Rattle.yew_laws.specs.Greatest.{greatest_of, greatest}
use Rattle.yew_laws.specs.SearchTree.{preorder}
use Rattle.yew_laws.specs.Sets.{are_different, are_within}
use Rattle.yew_laws.specs.Tree.{Member, node_at, root_member, forest, tree}
use Rattle.yew_laws.proofs.Members.{Contains-head, Contains-tail}
use Rattle.yew_laws.proofs.Trees.{tree-contains, tree-node_at, tree-sound, tree-unfolds}
use Rattle.yew_tsp.specs.declared.nodes.TourNode.{TourNode}
use Rattle.yew_tsp.specs.Answers.{tours_tree, IsFound, TreeTours}
use Rattle.yew_tsp.specs.BoundLaws.{tour-small, worth-whole, worth-part}
use Rattle.yew_tsp.specs.Instance.{Instance, IsWithinLimits}
use Rattle.yew_tsp.specs.Lists.{filter-different, filter-every, length-range, range-all, within-all}
use Rattle.yew_tsp.specs.NodeLaws.{tours-ranked, root-sound, length-cities}
use Rattle.yew_tsp.specs.Nodes.{cities_of, root_of, children_of, worth_of, IsNode}
use Rattle.yew_tsp.specs.Routes.{begins_with_one, is_tour, tour_length, IsLeastLength}
use Rattle.yew_tsp.proofs.Paths.{one_path, reaches}

-- a member that has the greatest worth
record Attained (worth : TourNode → ℕ) (ms : List (Member TourNode)) : Type 0 where
  pub member : Member TourNode
  pub stands : Contains ms member
  pub is : worth member.node ≡ greatest_of worth ms

attained : (worth : TourNode → ℕ) (m : Member TourNode) (ms : List (Member TourNode)) → Attained worth (m ∷ ms)
attained worth m [] = record { member = m; stands = Contains-head m []; is = omega arith }
attained worth m (x ∷ xs) =
    let rest = attained worth x xs in
    elim (cases_lt (worth m.node) (greatest_of worth (x ∷ xs))) [
      | inl less ↦ record { member = rest.member; stands = Contains-tail m (x ∷ xs) rest.member rest.stands; is = let e = rest.is in omega (arith, e, less) }
      | inr most ↦ record { member = m; stands = Contains-head m (x ∷ xs); is = omega (arith, most) }
    ]

none_above : (worth : TourNode → ℕ) (g : ℕ) (ms : List (Member TourNode)) → greatest_of worth ms ≤ g → AllByRecursion (λ m. worth m.node ≤ g) ms
none_above worth g [] l = tt
none_above worth g (m ∷ ms) l = (omega (arith, l), none_above worth g ms (omega (arith, l)))

-- ---- tests of tours

count_is : (a b : ℕ) → (a == b) ≡ true → a ≡ b
count_is a b e = grind (arith, nat_tests)

is_count : (a b : ℕ) → a ≡ b → (a == b) ≡ true
is_count a b e = grind (arith, nat_tests)

pub record IsTour (instance : Instance) (cities : List ℕ) : Type 0 where
  pub count : length cities ≡ instance.cities
  pub begins : begins_with_one cities ≡ true
  pub within : are_within 1 instance.cities cities ≡ true
  pub different : are_different cities ≡ true

pub tour-parts : (instance : Instance) (cities : List ℕ) → is_tour instance cities ≡ true → IsTour instance cities
tour-parts instance cities h =
    let a = and_parts (length cities == instance.cities) (begins_with_one cities && (are_within 1 instance.cities cities && are_different cities)) h in
    let b = and_parts (begins_with_one cities) (are_within 1 instance.cities cities && are_different cities) a.1 in
    let c = and_parts (are_within 1 instance.cities cities) (are_different cities) b.1 in
    record { count = count_is (length cities) instance.cities a.0; begins = b.0; within = c.0; different = c.1 }

pub tour-from : (instance : Instance) (cities : List ℕ) → IsTour instance cities → is_tour instance cities ≡ true
tour-from instance cities t =
    and_from (length cities == instance.cities) (begins_with_one cities && (are_within 1 instance.cities cities && are_different cities))
    (is_count (length cities) instance.cities t.count)
    (and_from (begins_with_one cities) (are_within 1 instance.cities cities && are_different cities) t.begins
    (and_from (are_within 1 instance.cities cities) (are_different cities) t.within t.different))

-- the cities in the order of their numbers are a tour
first-tour : (instance : Instance) → 1 ≤ instance.cities → IsTour instance (range_with_len 1 instance.cities)
first-tour instance some =
    let long : instance.cities ≡ suc (instance.cities - 1) = omega arith in
    record {
      count = length-range 1 instance.cities;
      begins = ap (λ n. begins_with_one (range_with_len 1 n)) long;
      within = within-all 1 instance.cities (range_with_len 1 instance.cities) (range-all (λ k. (1 ≤ k) × (k ≤ instance.cities)) 1 instance.cities (λ k l m. (l, omega arith)));
      different =
          ap are_different (sym (filter-every (λ k. true) (range_with_len 1 instance.cities) (range-all (λ k. true ≡ true) 1 instance.cities (λ k l m. refl))))
          ∙ filter-different (λ k. true) 1 instance.cities;
    }

module _ (instance : Instance) (limits : IsWithinLimits instance) where
  abbrev members : List (Member TourNode)
  members = preorder (tours_tree instance)

  root : IsNode instance (root_of instance)
  root = root-sound instance limits

  member-all : (P : Member TourNode → Type 0) → AllByRecursion P members → (m : Member TourNode) → Contains members m → P m
  member-all P a m stands = All-contains P members m (All-from_recursion P members a) stands

  -- each member of the tree is a node
  pub member-sound : (m : Member TourNode) → Contains members m → IsNode instance m.node
  member-sound = member-all (λ m. IsNode instance m.node) (tree-sound (tours-ranked instance) (root_of instance) root)

  member-at : (m : Member TourNode) → Contains members m → node_at (children_of instance) (root_of instance) m.path ≡ Some m.node
  member-at =
      member-all (λ m. node_at (children_of instance) (root_of instance) m.path ≡ Some m.node) (tree-node_at (tours-ranked instance) (root_of instance) root)

  steps-all : (node : TourNode) → IsNode instance node → length (cities_of node) ≡ instance.cities → node.steps + 1 ≡ instance.cities
  steps-all node sound count = sym (length-cities instance node sound) ∙ count

  pub node-tours : (node : TourNode) → IsNode instance node → length (cities_of node) ≡ instance.cities → is_tour instance (cities_of node) ≡ true
  node-tours node sound count =
      tour-from instance (cities_of node) (record { count = count; begins = sound.begins; within = sound.within; different = sound.different })

  pub node-worth : (node : TourNode) → IsNode instance node → length (cities_of node) ≡ instance.cities → worth_of instance node + tour_length instance (cities_of node) ≡ 2 ^ 37
  node-worth node sound count =
      let worth = worth-whole instance node sound (steps-all node sound count) in
      let small = tour-small instance node sound in
      omega (arith, worth, small)

  pub node-others : (node : TourNode) → IsNode instance node → length (cities_of node) ≢ instance.cities → worth_of instance node ≡ 0
  node-others node sound part = worth-part instance node sound (λ all. part (length-cities instance node sound ∙ all))

  all-found : (cities : List ℕ) → is_tour instance cities ≡ true → IsFound instance cities
  all-found [] h = let t = tour-parts instance [] h in let several = limits.several in let count = t.count in absurd (omega (arith, count, several))
  all-found (c ∷ cities) h =
      let t = tour-parts instance (c ∷ cities) h in
      let same : ◌≡◌ {A = List ℕ} (1 ∷ cities) (c ∷ cities) = ap (λ k. k ∷ cities) (sym (count_is c 1 t.begins)) in
      let r = reaches instance cities (root_of instance) root (ap (are_within 1 instance.cities) same ∙ t.within) (ap are_different same ∙ t.different) in
      record {
        member = record { path = r.path; node = r.last };
        stands = tree-contains (tours-ranked instance) r.path (root_of instance) r.last root r.found;
        cities_are = r.list_is ∙ same;
      }

  each-once : (m other : Member TourNode) → Contains members m → Contains members other → cities_of m.node ≡ cities_of other.node → m ≡ other
  each-once m other stands also e =
      let paths : m.path ≡ other.path = one_path instance m.path other.path (root_of instance) m.node other.node root (member-at m stands) (member-at other also) e in
      let nodes : m.node ≡ other.node = same_Some m.node other.node (sym (member-at m stands) ∙ ap (node_at (children_of instance) (root_of instance)) paths ∙ member-at other also) in
      ap₂ (λ (p : List ℕ) (n : TourNode). make p n) paths nodes
    where
      make : List ℕ → TourNode → Member TourNode
      make p n = record { path = p; node = n }

  not-above : (m : Member TourNode) → Contains members m → worth_of instance m.node ≤ greatest (tours_tree instance)
  not-above =
      member-all (λ m. worth_of instance m.node ≤ greatest (tours_tree instance)) (none_above (worth_of instance) (greatest (tours_tree instance)) members (omega arith))

  best-member : Attained (worth_of instance) members
  best-member =
      subst (Attained (worth_of instance)) (sym (tree-unfolds (tours-ranked instance) (root_of instance) root))
      (attained (worth_of instance) (root_member (root_of instance)) (forest (tree (children_of instance) (tours_tree instance).rank) 0 (children_of instance (root_of instance))))

  -- a tour is found, with 2 ^ 37 less its length
  found-worth : (cities : List ℕ) → is_tour instance cities ≡ true → (2 ^ 37 ≤ greatest (tours_tree instance) + tour_length instance cities) × (tour_length instance cities < 2 ^ 37)
  found-worth cities h =
      let f = all-found cities h in
      let t = tour-parts instance cities h in
      let sound = member-sound f.member f.stands in
      let worth = node-worth f.member.node sound (ap length f.cities_are ∙ t.count) in
      let same = ap (tour_length instance) f.cities_are in
      let most = not-above f.member f.stands in
      let small = tour-small instance f.member.node sound in
      (omega (arith, worth, same, most), omega (arith, same, small))

  some-worth : 1 ≤ greatest (tours_tree instance)
  some-worth =
      let several = limits.several in
      let first = range_with_len 1 instance.cities in
      let w = found-worth first (tour-from instance first (first-tour instance (omega (arith, several)))) in
      omega (arith, w.0, w.1)

  least-length : IsLeastLength instance (2 ^ 37 - greatest (tours_tree instance))
  least-length =
      let b = best-member in
      let sound = member-sound b.member b.stands in
      let is = b.is in
      let some = some-worth in
      elim (cases_eq (length (cities_of b.member.node)) instance.cities) [
        | inl all ↦
            let worth = node-worth b.member.node sound all in
            record {
              one = cities_of b.member.node;
              passes = node-tours b.member.node sound all;
              attains = omega (arith, worth, is);
              others = λ cities h. let w = found-worth cities h in omega (arith, w.0);
            }
        | inr part ↦ let none = node-others b.member.node sound part in absurd (omega (arith, none, is, some))
      ]

  -- the tree answers the question of the shortest tour
  pub tree-tours : TreeTours instance
  tree-tours = record {
    each = λ m stands count. node-tours m.node (member-sound m stands) count;
    all = all-found;
    once = each-once;
    worth = λ m stands count. node-worth m.node (member-sound m stands) count;
    others = λ m stands part. node-others m.node (member-sound m stands) part;
    positive = some-worth;
    least = least-length;
  }

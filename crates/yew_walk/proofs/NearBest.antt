-- The cover of a tree and the causes of its cuts say how far the best visit is from the best node.
use Rattle.std.proofs.Common.{◌≡◌, ℕ, ◌≤◌, ◌⊎◌, List, [], ◌∷◌, ◌++◌, ◌∙◌, Option, Some, None, max, slice_get, refl, sym, ap, arith, ⊎_elim}
use Rattle.std.specs.List.{AllByRecursion, Contains, flat_map}
use Rattle.std.proofs.lemmas.List.Elements.{All-contains, All-from_recursion}
use Rattle.std.specs.Option.{option_map}
use Rattle.std.proofs.lemmas.Option.{none-some, option_and_then_some}
use Rattle.yew_laws.specs.Cover.{Cover}
use Rattle.yew_laws.specs.Greatest.{greatest, greatest_of}
use Rattle.yew_laws.specs.SearchTree.{SearchTree, preorder, at_path, worth_at, bound_at, below, below_node, tree_paths}
use Rattle.yew_laws.specs.Tree.{Member, tree, node_at, prefixed, paths as member_paths, IsRanked, IsBounded}
use Rattle.yew_laws.proofs.Bags.{same-sym, same-part}
use Rattle.yew_laws.proofs.Members.{AllByRecursion-append, AllByRecursion-map, AllByRecursion-weaker, AllByRecursion-both}
use Rattle.yew_laws.proofs.PathTests.{is_path-same, is_path-is}
use Rattle.yew_laws.proofs.Trees.{tree-sound, tree-node_at, tree-contains}
use Rattle.yew_laws.proofs.Weights.{part-all}
use Rattle.yew_laws.specs.Order.{is_path}
use Rattle.yew_log.specs.Attained.{Attained, limit}
use Rattle.yew_log.specs.Notes.{Judgement, paths, values, maximum}
use Rattle.yew_walk.proofs.KeyOrder.{limit-grows, limit-least}

-- a node further down
node_at-further : {N : Type 0} (children : N → List N) (start n : N) (path rest : List ℕ) → node_at children start path ≡ Some n
    → node_at children start (path ++ rest) ≡ node_at children n rest
node_at-further children start n [] rest e = let same : start ≡ n = cc in ap (λ m. node_at children m rest) same
node_at-further children start n (j ∷ js) rest e =
    option_and_then_some (λ d. node_at children d js) (slice_get (children start) j) n e
    (λ d there below. rw there (node_at-further children d n js rest below))

-- no number is greater than the greatest
pub maximum-bounds : (ns : List ℕ) → AllByRecursion (λ n. n ≤ maximum ns) ns
maximum-bounds [] = tt
maximum-bounds (n ∷ ns) = (omega arith, AllByRecursion-weaker (λ k. k ≤ maximum ns) (λ k. k ≤ max n (maximum ns)) (λ k h. omega arith) ns (maximum-bounds ns))

pub maximum-least : (ns : List ℕ) (b : ℕ) → AllByRecursion (λ n. n ≤ b) ns → maximum ns ≤ b
maximum-least [] b a = omega arith
maximum-least (n ∷ ns) b a = let h = a.0 in let r = maximum-least ns b a.1 in omega arith

pub contained-bounds : (ns : List ℕ) (n : ℕ) → Contains ns n → n ≤ maximum ns
contained-bounds ns n c = All-contains (λ k. k ≤ maximum ns) ns n (All-from_recursion (λ k. k ≤ maximum ns) ns (maximum-bounds ns)) c

greatest_of-least : {N : Type 0} (worth : N → ℕ) (ms : List (Member N)) (b : ℕ) → AllByRecursion (λ m. worth m.node ≤ b) ms → greatest_of worth ms ≤ b
greatest_of-least worth [] b a = omega arith
greatest_of-least worth (m ∷ ms) b a = let h = a.0 in let r = greatest_of-least worth ms b a.1 in omega arith

greatest_of-bounds : {N : Type 0} (worth : N → ℕ) (ms : List (Member N)) → AllByRecursion (λ m. worth m.node ≤ greatest_of worth ms) ms
greatest_of-bounds worth [] = tt
greatest_of-bounds worth (m ∷ ms) = (omega arith, AllByRecursion-weaker (λ k. worth k.node ≤ greatest_of worth ms) (λ k. worth k.node ≤ max (worth m.node) (greatest_of worth ms)) (λ k h. omega arith) ms (greatest_of-bounds worth ms))

module _ {N : Type 0} (t : SearchTree N) {sound : N → Type 0} (ranked : IsRanked sound t.children t.rank) (bounded : IsBounded sound t.children t.worth t.bound) (root_sound : sound t.root) where
  -- the node at a path has at most this worth
  abbrev AtMost : ℕ → List ℕ → Type 0
  AtMost b path = (n : N) → at_path t path ≡ Some n → t.worth n ≤ b

  -- the node at a path is sound
  pub at_path-sound : (path : List ℕ) (n : N) → at_path t path ≡ Some n → sound n
  at_path-sound path n e =
      All-contains (λ (m : Member N). sound m.node) (preorder t) (record { path = path; node = n })
      (All-from_recursion (λ (m : Member N). sound m.node) (preorder t) (tree-sound ranked t.root root_sound)) (tree-contains ranked path t.root n root_sound e)

  -- the node at a path of the tree has at most the greatest worth
  pub at_path-greatest : (path : List ℕ) (n : N) → at_path t path ≡ Some n → t.worth n ≤ greatest t
  at_path-greatest path n e =
      All-contains (λ (m : Member N). t.worth m.node ≤ greatest t) (preorder t) (record { path = path; node = n })
      (All-from_recursion (λ (m : Member N). t.worth m.node ≤ greatest t) (preorder t) (greatest_of-bounds t.worth (preorder t))) (tree-contains ranked path t.root n root_sound e)

  -- below a node no worth is above its bound
  below-at_most : (b : ℕ) (path : List ℕ) (found : Option N) → at_path t path ≡ found → ((n : N) → found ≡ Some n → t.bound n ≤ b)
      → AllByRecursion (AtMost b) (below_node t path found)
  below-at_most b path None e le = tt
  below-at_most b path (Some n) e le =
      let s = at_path-sound path n e in
      AllByRecursion-map (AtMost b) (λ (m : Member N). m.path) (prefixed path (tree t.children t.rank n))
      (AllByRecursion-map (λ (m : Member N). AtMost b m.path) (λ (m : Member N). record { path = path ++ m.path; node = m.node }) (tree t.children t.rank n)
      (AllByRecursion-weaker (λ (m : Member N). node_at t.children n m.path ≡ Some m.node) (λ (m : Member N). AtMost b (path ++ m.path))
      (λ m at x there.
      let same : Some x ≡ Some m.node = sym there ∙ (node_at-further t.children t.root n path m.path e ∙ at) in
      let is : x ≡ m.node = cc in
      let low = bounded.bounds n m.node m.path s at in
      let bound_low = le n refl in
      let w : t.worth x ≡ t.worth m.node = ap t.worth is in omega arith)
      (tree t.children t.rank n) (tree-node_at ranked n s)))

  module _ (gap : ℕ) (visits cuts : List Judgement) (cover : Cover t (paths visits) (paths cuts)) (attained : Attained t gap visits cuts) where
    -- a visited node has at most the greatest visited worth
    visited-at_most : AllByRecursion (λ (v : Judgement). AtMost (limit gap (maximum (values visits))) v.path) visits
    visited-at_most =
        let top = maximum (values visits) in
        let low : AllByRecursion (λ (v : Judgement). v.value ≤ top) visits = values-below visits top (maximum-bounds (values visits)) in
        AllByRecursion-weaker (λ (v : Judgement). (worth_at t v.path ≡ Some v.value) × (v.value ≤ top)) (λ (v : Judgement). AtMost (limit gap top) v.path)
        (λ v both n there.
        let is : Some (t.worth n) ≡ Some v.value = sym (ap (option_map t.worth) there) ∙ both.0 in
        let same : t.worth n ≡ v.value = cc in
        let le = both.1 in let g = limit-least gap top in omega arith)
        visits (AllByRecursion-both (λ (v : Judgement). worth_at t v.path ≡ Some v.value) (λ (v : Judgement). v.value ≤ top) visits attained.worths low)
      where
        values-below : (vs : List Judgement) (top : ℕ) → AllByRecursion (λ n. n ≤ top) (values vs) → AllByRecursion (λ (v : Judgement). v.value ≤ top) vs
        values-below [] top a = tt
        values-below (v ∷ vs) top a = (a.0, values-below vs top a.1)

    -- what a cut hides is at most what the best visit permits
    hidden-at_most : (cs : List Judgement) → AllByRecursion (λ (c : Judgement). bound_at t c.path ≡ Some c.value) cs
        → AllByRecursion (λ (c : Judgement). c.value ≤ limit gap c.held) cs
        → AllByRecursion (λ (c : Judgement). (c.held ≡ 0) ⊎ Contains (values visits) c.held) cs
        → AllByRecursion (AtMost (limit gap (maximum (values visits)))) (flat_map (below t) (paths cs))
    hidden-at_most [] b p a = tt
    hidden-at_most (c ∷ cs) b p a =
        let top = maximum (values visits) in
        let held_low : c.held ≤ top = ⊎_elim (λ (z : c.held ≡ 0). omega arith) (λ (h : Contains (values visits) c.held). contained-bounds (values visits) c.held h) a.0 in
        let lim = limit-grows gap c.held top held_low in let own = p.0 in
        AllByRecursion-append (AtMost (limit gap top)) (below t c.path) (flat_map (below t) (paths cs))
        (below-at_most (limit gap top) c.path (at_path t c.path) refl
        (λ n there.
        let is : Some (t.bound n) ≡ Some c.value = sym (ap (option_map t.bound) there) ∙ b.0 in
        let same : t.bound n ≡ c.value = cc in omega arith))
        (hidden-at_most cs b.1 p.1 a.1)

    -- the greatest worth is at most what the best visit permits
    pub greatest-permitted : greatest t ≤ limit gap (maximum (values visits))
    greatest-permitted =
        let top = limit gap (maximum (values visits)) in
        let all_attained = attained.attained in
        let cut_attained = all-behind visits cuts all_attained in
        let covered : AllByRecursion (AtMost top) (paths visits ++ flat_map (below t) (paths cuts)) =
        AllByRecursion-append (AtMost top) (paths visits) (flat_map (below t) (paths cuts)) (AllByRecursion-map (AtMost top) (λ (v : Judgement). v.path) visits visited-at_most) (hidden-at_most cuts attained.bounds attained.permitted cut_attained) in
        let everywhere : AllByRecursion (AtMost top) (tree_paths t) = part-all is_path is_path-same is_path-is (AtMost top) (same-part (same-sym cover.each_once)) covered in
        greatest_of-least t.worth (preorder t) top (members-low (preorder t) everywhere (tree-node_at ranked t.root root_sound))
      where
        all-behind : (vs cs : List Judgement) → AllByRecursion (λ (j : Judgement). (j.held ≡ 0) ⊎ Contains (values visits) j.held) (vs ++ cs)
            → AllByRecursion (λ (j : Judgement). (j.held ≡ 0) ⊎ Contains (values visits) j.held) cs
        all-behind [] cs a = a
        all-behind (v ∷ vs) cs a = all-behind vs cs a.1

        members-low : (ms : List (Member N)) → AllByRecursion (AtMost (limit gap (maximum (values visits)))) (member_paths (prefixed [] ms))
            → AllByRecursion (λ (m : Member N). node_at t.children t.root m.path ≡ Some m.node) ms
            → AllByRecursion (λ (m : Member N). t.worth m.node ≤ limit gap (maximum (values visits))) ms
        members-low [] a at = tt
        members-low (m ∷ ms) a at = (a.0 m.node at.0, members-low ms a.1 at.1)

    -- no visit has more than the greatest worth
    pub visited-greatest : maximum (values visits) ≤ greatest t
    visited-greatest = maximum-least (values visits) (greatest t) (low visits attained.worths)
      where
        low : (vs : List Judgement) → AllByRecursion (λ (v : Judgement). worth_at t v.path ≡ Some v.value) vs → AllByRecursion (λ n. n ≤ greatest t) (values vs)
        low [] a = tt
        low (v ∷ vs) a = (worth-low (at_path t v.path) refl a.0, low vs a.1)
          where
            worth-low : (found : Option N) → at_path t v.path ≡ found → option_map t.worth found ≡ Some v.value → v.value ≤ greatest t
            worth-low None e w = absurd (none-some v.value w)
            worth-low (Some n) e w = let same : t.worth n ≡ v.value = cc in let g = at_path-greatest v.path n e in omega arith

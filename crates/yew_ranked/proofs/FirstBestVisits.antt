-- In a search by ranked keys the first best node is visited, and its visit has the greatest key.
use Rattle.std.proofs.Common.{◌≡◌, ℕ, zero, suc, ◌+◌, ◌<◌, ◌≤◌, ◌⊎◌, List, [], ◌∷◌, ◌++◌, Option, Some, None, refl, ap, sym, subst, ◌∙◌, ⊎_elim, arith}
use Rattle.std.specs.Prelude.{IsTrue, slice_get, option_and_then}
use Rattle.std.specs.List.{AllByRecursion, Contains, flat_map, sum_by}
use Rattle.std.specs.Option.{option_map}
use Rattle.std.proofs.lemmas.List.Elements.{All-contains, All-from_recursion}
use Rattle.std.proofs.lemmas.List.Sums.{sum_by-append}
use Rattle.std.proofs.lemmas.Option.{none-some, same_Some}
use native.Mathlib.Decide.{ℕ_discrete}
use Rattle.yew_laws.specs.Tree.{Member, node_at, tree, prefixed, IsRanked, IsBounded}
use Rattle.yew_laws.specs.SearchTree.{SearchTree, at_path, worth_at, bound_at, below, tree_paths}
use Rattle.yew_laws.specs.Greatest.{greatest, first_best}
use Rattle.yew_laws.specs.Order.{comes_before, is_path, only}
use Rattle.yew_laws.proofs.Below.{AtOrBelow}
use Rattle.yew_laws.proofs.Members.{AllByRecursion-weaker, Contains-map}
use Rattle.yew_laws.proofs.Once.{Once, once-step}
use Rattle.yew_laws.proofs.PathTests.{is_path-same, is_path-is}
use Rattle.yew_laws.proofs.Trees.{ranked_induction, tree-contains, tree-sound}
use Rattle.yew_laws.proofs.Weights.{all-weighs, contains-weighs, contains-has_weight}
use Rattle.yew_log.specs.Items.{ranked_key}
use Rattle.yew_walk.proofs.Bests.{first_best-node}
use Rattle.yew_ranked.specs.RankedSearch.{RankedJudgement, ranked_paths, key_of_judgement, IsOfferedBefore, IsRankedSearch, IsFirstBestVisit}
use Rattle.yew_ranked.proofs.PathOrder.{before-not_itself, before-not_both, before-below}
use Rattle.yew_ranked.proofs.Preorder.{IsFrom, worth-at_most, best-from_first, best-some_worth}

-- a node that a worth or a bound is of
pub record AtNode {N : Type 0} (found : Option N) (of : N → ℕ) (value : ℕ) : Type 0 where
  pub node : N
  pub is : found ≡ Some node
  pub value_is : of node ≡ value

pub at-node : {N : Type 0} (found : Option N) (of : N → ℕ) (value : ℕ) → option_map of found ≡ Some value → AtNode found of value
at-node None of value e = absurd (none-some value e)
at-node (Some n) of value e = record { node = n; is = refl; value_is = same_Some (of n) value e }

-- a node at or below another stands at the rest of its path
node_at-below : {N : Type 0} (children : N → List N) (path rest : List ℕ) (start q n : N) → node_at children start path ≡ Some q → node_at children start (path ++ rest) ≡ Some n → node_at children q rest ≡ Some n
node_at-below children [] rest start q n at there = let same : start ≡ q = same_Some start q at in rw (← same) there
node_at-below children (k ∷ ks) rest start q n at there = by (slice_get (children start) k) (λ c. node_at-below children ks rest c q n) at there
  where
    by : (o : Option _) → ((c : _) → node_at children c ks ≡ Some q → node_at children c (ks ++ rest) ≡ Some n → node_at children q rest ≡ Some n)
        → option_and_then (λ c. node_at children c ks) o ≡ Some q → option_and_then (λ c. node_at children c (ks ++ rest)) o ≡ Some n → node_at children q rest ≡ Some n
    by None deeper a b = absurd (none-some q a)
    by (Some c) deeper a b = deeper c a b

-- one of these cuts, at or above a path
record IsCutAbove (cuts : List RankedJudgement) (path : List ℕ) : Type 0 where
  pub cut : RankedJudgement
  pub among : Contains cuts cut
  pub above : AtOrBelow cut.path path

all-at : {X : Type 0} (P : X → Type 0) (xs : List X) (x : X) → AllByRecursion P xs → Contains xs x → P x
all-at P xs x a c = All-contains P xs x (All-from_recursion P xs a) c

-- one of these visits, at a path
record IsVisitAt (visits : List RankedJudgement) (path : List ℕ) : Type 0 where
  pub visit : RankedJudgement
  pub among : Contains visits visit
  pub path_is : visit.path ≡ path

more-visits : (v : RankedJudgement) (vs : List RankedJudgement) (path : List ℕ) → IsVisitAt vs path → IsVisitAt (v ∷ vs) path
more-visits v vs path is = let a = is.among in record { visit = is.visit; among = (suc a.0, omega (arith, a.1), a.2); path_is = is.path_is }

more-cuts : (c : RankedJudgement) (cs : List RankedJudgement) (path : List ℕ) → IsCutAbove cs path → IsCutAbove (c ∷ cs) path
more-cuts c cs path is = let a = is.among in record { cut = is.cut; among = (suc a.0, omega (arith, a.1), a.2); above = is.above }

visit-at : (vs : List RankedJudgement) (path : List ℕ) → Contains (ranked_paths vs) path → IsVisitAt vs path
visit-at [] path c = absurd (omega (arith, c.1))
visit-at (v ∷ vs) path (zero, less, is) = record { visit = v; among = (0, omega arith, refl); path_is = is }
visit-at (v ∷ vs) path (suc k, less, is) = more-visits v vs path (visit-at vs path (k, omega arith, is))

module _ {N : Type 0} (t : SearchTree N) {sound : N → Type 0} (ranked : IsRanked sound t.children t.rank) (root : sound t.root) where
  -- what is cut covers a path by one of the cuts, which stand in the tree
  cut-above : (cs : List RankedJudgement) (path : List ℕ) → ((c : RankedJudgement) → Contains cs c → AllByRecursion (AtOrBelow c.path) (below t c.path))
      → 0 < sum_by (only path) (flat_map (below t) (ranked_paths cs)) → IsCutAbove cs path
  cut-above [] path inside more = absurd (omega arith)
  cut-above (c ∷ cs) path inside more =
      let w = sum_by-append (only path) (below t c.path) (flat_map (below t) (ranked_paths cs)) in
      by (sum_by (only path) (below t c.path)) refl (λ h. cut-above cs path (λ d a. inside d (suc a.0, omega (arith, a.1), a.2)) h) (omega arith)
    where
      by : (n : ℕ) → sum_by (only path) (below t c.path) ≡ n → (0 < sum_by (only path) (flat_map (below t) (ranked_paths cs)) → IsCutAbove cs path)
          → 0 < n + sum_by (only path) (flat_map (below t) (ranked_paths cs)) → IsCutAbove (c ∷ cs) path
      by zero e rest some = more-cuts c cs path (rest (omega arith))
      by (suc n) e rest some = record {
        cut = c;
        among = (0, omega arith, refl);
        above = all-weighs is_path is_path-same is_path-is (AtOrBelow c.path) (below t c.path) path (inside c (0, omega arith, refl)) (omega arith);
      }

  pub node-sound : (path : List ℕ) (n : N) → at_path t path ≡ Some n → sound n
  node-sound path n at = all-at (λ (m : Member N). sound m.node) (tree t.children t.rank t.root) (record { path = path; node = n }) (tree-sound ranked t.root root) (tree-contains ranked path t.root n root at)

  -- a path of the tree is one of its paths
  in-paths : (path : List ℕ) (n : N) → at_path t path ≡ Some n → Contains (tree_paths t) path
  in-paths path n at =
      let ms = tree t.children t.rank t.root in
      Contains-map (λ (m : Member N). m.path) (prefixed [] ms) (record { path = path; node = n })
      (Contains-map (λ (m : Member N). record { path = m.path; node = m.node }) ms (record { path = path; node = n }) (tree-contains ranked path t.root n root at))

  -- what lies below a cut lies at or below its path
  pub cut-inside : (path : List ℕ) (q : N) → at_path t path ≡ Some q → AllByRecursion (AtOrBelow path) (below t path)
  cut-inside path q at = (ranked_induction ranked (Once t ranked) (once-step t ranked) q (node-sound path q at) path at).inside

  module _ (bounded : IsBounded sound t.children t.worth t.bound) {visits cuts : List RankedJudgement} (is : IsRankedSearch t visits cuts) where
    visit-node : (u : RankedJudgement) → Contains visits u → AtNode (at_path t u.path) t.worth u.value
    visit-node u a = at-node (at_path t u.path) t.worth u.value (all-at (λ (v : RankedJudgement). worth_at t v.path ≡ Some v.value) visits u is.worths a)

    cut-node : (c : RankedJudgement) → Contains cuts c → AtNode (at_path t c.path) t.bound c.value
    cut-node c a = at-node (at_path t c.path) t.bound c.value (all-at (λ (v : RankedJudgement). bound_at t v.path ≡ Some v.value) cuts c is.bounds a)

    pub visit-at_most : (u : RankedJudgement) → Contains visits u → u.value ≤ greatest t
    visit-at_most u a = let at = visit-node u a in let le = worth-at_most t ranked root u.path at.node at.is in let v = at.value_is in omega (arith, le, v)

    visit-item : (u : RankedJudgement) → Contains visits u → u.item < 1048576
    visit-item u a = all-at (λ (v : RankedJudgement). v.item < 1048576) visits u is.visit_items a

    module _ (first : List ℕ) (best : first_best t ≡ Some first) where
      visit-from : (u : RankedJudgement) → Contains visits u → u.value ≡ greatest t → IsFrom first u.path
      visit-from u a worth = let at = visit-node u a in best-from_first t ranked root first u.path at.node best at.is (at.value_is ∙ worth)

      -- no visit of the greatest worth comes before the first best path
      none-before : (u : RankedJudgement) → Contains visits u → u.value ≡ greatest t → IsTrue (comes_before u.path first) → ⊥
      none-before u a worth before =
          ⊎_elim (λ (same : u.path ≡ first). before-not_itself first (subst (λ (p : List ℕ). IsTrue (comes_before p first)) same before))
          (λ (later : IsTrue (comes_before first u.path)). before-not_both u.path first before later) (visit-from u a worth)

      -- the first best node does not lie at or below a cut
      not-cut : IsCutAbove cuts first → ⊥
      not-cut above =
          let c = above.cut in let rest = above.above.rest in
          let there = first_best-node t ranked root first best in
          let at = cut-node c above.among in
          let below : node_at t.children at.node rest ≡ Some there.node = node_at-below t.children c.path rest t.root at.node there.node at.is (ap (at_path t) (sym above.above.is) ∙ there.found) in
          let bounds = bounded.bounds at.node there.node rest (node-sound c.path at.node at.is) below in
          let over : greatest t ≤ c.value = (let v = at.value_is in let w = there.best in omega (arith, bounds, v, w)) in
          let some = best-some_worth t ranked root first best in
          let permitted = all-at (λ (v : RankedJudgement). key_of_judgement v ≤ v.word) cuts c is.permitted above.among in
          ⊎_elim (λ (none : c.word ≡ 0). no-key c.value c.item c.word (greatest t) over some permitted none) (λ (o : IsOfferedBefore visits c). by above over permitted o)
          (all-at (λ (v : RankedJudgement). (v.word ≡ 0) ⊎ IsOfferedBefore visits v) cuts c is.offered above.among)
        where
          no-key : (bound item word g : ℕ) → g ≤ bound → 0 < g → ranked_key item bound ≤ word → word ≡ 0 → ⊥
          no-key bound item word g over some permitted none = absurd (omega arith)

          same-worth : (bound item worth other word g : ℕ) → g ≤ bound → worth ≤ g → ranked_key item bound ≤ word → word ≡ ranked_key other worth → worth ≡ g
          same-worth bound item worth other word g over at_most permitted is = omega arith

          no-later : (bound item worth other word g : ℕ) → g ≤ bound → worth ≤ g → other < 1048576 → ranked_key item bound ≤ word → word ≡ ranked_key other worth → other ≤ item
          no-later bound item worth other word g over at_most few permitted is = omega arith

          by : (above : IsCutAbove cuts first) → greatest t ≤ above.cut.value → key_of_judgement above.cut ≤ above.cut.word → IsOfferedBefore visits above.cut → ⊥
          by above over permitted o =
              let c = above.cut in let u = o.visit in
              let at_most = visit-at_most u o.among in
              let few = visit-item u o.among in
              let worth = same-worth c.value c.item u.value u.item c.word (greatest t) over at_most permitted o.word_is in
              let order = no-later c.value c.item u.value u.item c.word (greatest t) over at_most few permitted o.word_is in
              let before : IsTrue (comes_before u.path c.path) =
              elim (ℕ_discrete u.item c.item) [ yes same ↦ o.earlier same | no other ↦ is.cuts_rise u c o.among above.among (less u.item c.item order other) ] in
              none-before u o.among worth (subst (λ (p : List ℕ). IsTrue (comes_before u.path p)) (sym above.above.is) (before-below u.path c.path above.above.rest before))
            where
              less : (a b : ℕ) → a ≤ b → (a ≡ b → ⊥) → a < b
              less a b le other = grind arith

      -- so it is visited
      first-visited : IsVisitAt visits first
      first-visited =
          let there = first_best-node t ranked root first best in
          let inside = contains-has_weight is_path is_path-same is_path-is (tree_paths t) first (in-paths first there.node there.found) in
          let same = is.covered.each_once.weighs (only first) in
          let w = sum_by-append (only first) (ranked_paths visits) (flat_map (below t) (ranked_paths cuts)) in
          by (sum_by (only first) (ranked_paths visits)) refl (omega arith)
        where
          by : (n : ℕ) → sum_by (only first) (ranked_paths visits) ≡ n → 0 < n + sum_by (only first) (flat_map (below t) (ranked_paths cuts)) → IsVisitAt visits first
          by zero none some = absurd (not-cut (cut-above cuts first (λ c a. let at = cut-node c a in cut-inside c.path at.node at.is) (omega arith)))
          by (suc n) e some = visit-at visits first (contains-weighs is_path is_path-same is_path-is (ranked_paths visits) first (omega arith))

      -- and its visit has the greatest key, the first one
      pub first-best-visit : IsFirstBestVisit t visits first
      first-best-visit =
          let there = first_best-node t ranked root first best in
          let found = first-visited in let v = found.visit in
          let worth : v.value ≡ greatest t = value-is v found.among found.path_is there.node there.found there.best in
          record {
            visit = v;
            among = found.among;
            path_is = found.path_is;
            worth_is = worth;
            greatest_key = AllByRecursion-weaker (Contains visits) (λ (u : RankedJudgement). key_of_judgement u ≤ key_of_judgement v) (λ u a. at_most-key v found.among found.path_is worth u a) visits (contained visits);
            first_of_key = AllByRecursion-weaker (Contains visits) (λ (u : RankedJudgement). key_of_judgement u ≡ key_of_judgement v → (u.item ≡ v.item) × ((u.path ≡ first) ⊎ IsTrue (comes_before first u.path)))
                (λ u a e. same-key v found.among worth u a e) visits (contained visits);
          }
        where
          contained : {X : Type 0} (xs : List X) → AllByRecursion (Contains xs) xs
          contained [] = tt
          contained {X} (x ∷ xs) = ((0, omega arith, refl), AllByRecursion-weaker (Contains xs) (Contains (x ∷ xs)) (λ y a. (suc a.0, omega (arith, a.1), a.2)) xs (contained xs))

          value-is : (v : RankedJudgement) → Contains visits v → v.path ≡ first → (n : N) → at_path t first ≡ Some n → t.worth n ≡ greatest t → v.value ≡ greatest t
          value-is v a path n at worth =
              let node = visit-node v a in
              let same : n ≡ node.node = same_Some n node.node (sym at ∙ ap (at_path t) (sym path) ∙ node.is) in
              sym node.value_is ∙ (ap t.worth (sym same) ∙ worth)

          key-less : (a b x y : ℕ) → a < b → x < 1048576 → ranked_key x a ≤ ranked_key y b
          key-less a b x y less few = omega arith

          key-same : (a x y : ℕ) → (x < y → ⊥) → ranked_key x a ≤ ranked_key y a
          key-same a x y not = grind arith

          at_most-key : (v : RankedJudgement) → Contains visits v → v.path ≡ first → v.value ≡ greatest t → (u : RankedJudgement) → Contains visits u → key_of_judgement u ≤ key_of_judgement v
          at_most-key v b path worth u a =
              let le = visit-at_most u a in let few = visit-item u a in
              elim (ℕ_discrete u.value (greatest t)) [
                | yes same ↦ (let keys = key-same (greatest t) u.item v.item
                    (λ less. none-before u a same (subst (λ (p : List ℕ). IsTrue (comes_before u.path p)) path (is.visits_rise u v a b less))) in
                    subst (λ (n : ℕ). key_of_judgement u ≤ ranked_key v.item n) (sym worth) (subst (λ (n : ℕ). ranked_key u.item n ≤ ranked_key v.item (greatest t)) (sym same) keys))
                | no other ↦ key-less u.value v.value u.item v.item (strictly u.value v.value (greatest t) le other worth) few
              ]
            where
              strictly : (a b g : ℕ) → a ≤ g → (a ≡ g → ⊥) → b ≡ g → a < b
              strictly a b g le other is = grind arith

          equal-worth : (a b x y : ℕ) → a ≤ b → x < 1048576 → y < 1048576 → ranked_key x a ≡ ranked_key y b → a ≡ b
          equal-worth a b x y le few few' e = omega arith

          equal-item : (a b x y : ℕ) → a ≡ b → x < 1048576 → y < 1048576 → ranked_key x a ≡ ranked_key y b → x ≡ y
          equal-item a b x y same few few' e = omega arith

          same-key : (v : RankedJudgement) → Contains visits v → v.value ≡ greatest t → (u : RankedJudgement) → Contains visits u → key_of_judgement u ≡ key_of_judgement v → (u.item ≡ v.item) × ((u.path ≡ first) ⊎ IsTrue (comes_before first u.path))
          same-key v b worth u a e =
              let le = visit-at_most u a in let few = visit-item u a in let few' = visit-item v b in
              let values = equal-worth u.value v.value u.item v.item (omega arith) few few' e in (
                equal-item u.value v.value u.item v.item values few few' e,
                visit-from u a (values ∙ worth),
              )

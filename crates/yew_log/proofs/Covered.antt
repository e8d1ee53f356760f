-- In a whole segment of the root, each child of a visited node is visited or cut.
use Rattle.std.proofs.Common.{◌≡◌, ℕ, zero, suc, ◌+◌, ◌<◌, ◌≤◌, List, [], ◌∷◌, ◌++◌, map, cond, Option, Some, None, slice_get, refl, ap, sym, subst, ◌∙◌, append-nil, arith, inl, inr}
use Rattle.std.specs.List.{flat_map}
use Rattle.std.proofs.lemmas.List.Sums.{sum_by-append, sum_by-cons}
use Rattle.std.proofs.lemmas.Option.{same_Some}
use Rattle.yew_laws.specs.Tree.{Member, tree, prefixed, node_at, IsRanked}
use Rattle.yew_laws.proofs.Trees.{ranked_induction, tree-contains}
use Rattle.yew_laws.proofs.Members.{AllByRecursion-at, Contains-map}
use Rattle.yew_laws.specs.Bag.{SameBag}
use Rattle.yew_laws.specs.SearchTree.{SearchTree, at_path, below, below_node}
use Rattle.yew_laws.specs.Order.{is_path}
use Rattle.yew_log.specs.Notes.{Note, taken, visited, cut, spawned, handed, ended, paths, judgements, visited_paths, cut_paths, sent_paths}
use Rattle.yew_log.specs.Segment.{covered_paths}
use Rattle.yew_laws.proofs.PathTests.{is_path-same, is_path-is}
use Rattle.yew_laws.specs.Order.{only}
use Rattle.yew_laws.specs.Order.{occurs}
use Rattle.yew_laws.proofs.Weights.{all-weighs, contains-has_weight}
use Rattle.yew_laws.proofs.Below.{AtOrBelow}
use Rattle.yew_log.proofs.Blocks.{split-push}
use Rattle.yew_laws.proofs.Once.{Once, once-step, tree-once}

judgements-parts : (p : List ℕ) (notes : List Note) → occurs p (paths (judgements notes)) ≡ occurs p (visited_paths notes) + occurs p (cut_paths notes)
judgements-parts p [] = omega arith
judgements-parts p (taken q ∷ ns) = judgements-parts p ns
judgements-parts p (spawned q ∷ ns) = judgements-parts p ns
judgements-parts p (handed q ∷ ns) = judgements-parts p ns
judgements-parts p (ended q ∷ ns) = judgements-parts p ns
judgements-parts p (visited q w h ∷ ns) =
    let a = sum_by-cons (only p) q (paths (judgements ns)) in let b = sum_by-cons (only p) q (visited_paths ns) in let c = judgements-parts p ns in a ∙ omega arith
judgements-parts p (cut q w h ∷ ns) =
    let a = sum_by-cons (only p) q (paths (judgements ns)) in let b = sum_by-cons (only p) q (cut_paths ns) in let c = judgements-parts p ns in a ∙ omega arith

-- a list among several that has the path
pub record Source (f : List ℕ → List (List ℕ)) (xs : List (List ℕ)) (p : List ℕ) : Type 0 where
  pub x : List ℕ
  pub has : 0 < occurs p (f x)
  pub within : (q : List ℕ) → occurs q (f x) ≤ occurs q (flat_map f xs)
  pub is_there : 0 < occurs x xs

source : (f : List ℕ → List (List ℕ)) (xs : List (List ℕ)) (p : List ℕ) → 0 < occurs p (flat_map f xs) → Source f xs p
source f [] p more = absurd (omega arith)
source f (x ∷ xs) p more = by (occurs p (f x)) refl (λ h. source f xs p h)
  where
    by : (n : ℕ) → occurs p (f x) ≡ n → (0 < occurs p (flat_map f xs) → Source f xs p) → Source f (x ∷ xs) p
    by (suc n) e rec =
        let w = sum_by-cons (only x) x xs in
        let i : ◌≡◌ {A = ℕ} (only x x) 1 = ap (λ b. cond b 1 0) (is_path-same x) in
        record { x = x; has = omega arith; within = λ q. (let a = sum_by-append (only q) (f x) (flat_map f xs) in omega arith); is_there = omega arith }
    by zero e rec =
        let a = sum_by-append (only p) (f x) (flat_map f xs) in
        let r = rec (omega arith) in
        let w = sum_by-cons (only r.x) x xs in
        let m = r.is_there in
        record { x = r.x; has = r.has; within = λ q. (let b = sum_by-append (only q) (f x) (flat_map f xs) in let c = r.within q in omega arith); is_there = omega arith }

module _ {N : Type 0} (t : SearchTree N) {sound : N → Type 0} (ranked : IsRanked sound t.children t.rank) where
  -- the node on the way
  record OnWay (n : N) (c rest : List ℕ) (x : N) : Type 0 where
    pub node : N
    pub there : node_at t.children n c ≡ Some node
    pub from : node_at t.children node rest ≡ Some x
    pub is_sound : sound node

  on_way : (n : N) (c rest : List ℕ) (x : N) → sound n → node_at t.children n (c ++ rest) ≡ Some x → OnWay n c rest x
  on_way n [] rest x s e = record { node = n; there = refl; from = e; is_sound = s }
  on_way n (k ∷ c) rest x s e = by (slice_get (t.children n) k) refl (λ d sd f. on_way d c rest x sd f)
    where
      by : (o : Option N) → slice_get (t.children n) k ≡ o → ((d : N) → sound d → node_at t.children d (c ++ rest) ≡ Some x → OnWay d c rest x) → OnWay n (k ∷ c) rest x
      by None q rec = let f : None ≡ Some x = rw q at e in absurd (cc)
      by (Some d) q rec =
          let f : node_at t.children d (c ++ rest) ≡ Some x = rw q at e in
          let r = rec d (AllByRecursion-at sound (t.children n) k d q (ranked.stays_sound n s)) f in
          record { node = r.node; there = rw q r.there; from = r.from; is_sound = r.is_sound }

  below-has : (c rest : List ℕ) (m x : N) → at_path t c ≡ Some m → sound m → node_at t.children m rest ≡ Some x → 0 < occurs (c ++ rest) (below t c)
  below-has c rest m x e s f =
      let inside = Contains-map (λ (u : Member N). u.path) (prefixed c (tree t.children t.rank m)) (record { path = c ++ rest; node = x })
      (Contains-map (λ (u : Member N). record { path = c ++ u.path; node = u.node }) (tree t.children t.rank m) (record { path = rest; node = x }) (tree-contains ranked rest m x s f)) in
      subst (λ ps. 0 < occurs (c ++ rest) ps) (sym (ap (below_node t c) e))
      (contains-has_weight is_path is_path-same is_path-is (map (λ (u : Member N). u.path) (prefixed c (tree t.children t.rank m))) (c ++ rest) inside)

  module _ (root : sound t.root) where
    -- a path that stands below another one lies there
    lies : (c p : List ℕ) → 0 < occurs p (below t c) → AtOrBelow c p
    lies c p more = by (at_path t c) refl
      where
        by : (o : Option N) → at_path t c ≡ o → AtOrBelow c p
        by None e = let none : below t c ≡ [] = ap (below_node t c) e in let f : 0 < occurs p [] = rw none at more in absurd (omega (arith, f))
        by (Some m) e =
            let way = on_way t.root c [] m root (ap (node_at t.children t.root) (append-nil c) ∙ e) in
            let same : way.node ≡ m = same_Some way.node m (sym way.there ∙ e) in
            all-weighs is_path is_path-same is_path-is (AtOrBelow c) (below t c) p
            (ranked_induction ranked (Once t ranked) (once-step t ranked) m (subst sound same way.is_sound) c e).inside more

    -- each child of a visited node is visited or cut
    pub child-judged : (notes : List Note) → sent_paths notes ≡ [] → SameBag (covered_paths t notes) (below t []) → (r : List ℕ) (k : ℕ) (n : N) → at_path t (r ++ k ∷ []) ≡ Some n → 0 < occurs r (visited_paths notes) → 0 < occurs (r ++ k ∷ []) (paths (judgements notes))
    child-judged notes unsent bag r k n e entry_note = by (occurs p (paths (judgements notes))) refl
      where
        p : List ℕ
        p = r ++ k ∷ []

        by : (j : ℕ) → occurs (r ++ k ∷ []) (paths (judgements notes)) ≡ j → 0 < occurs (r ++ k ∷ []) (paths (judgements notes))
        by (suc j) f = omega arith
        by zero f =
            let others = cut_paths notes ++ sent_paths notes in
            let parts = judgements-parts (r ++ k ∷ []) notes in
            let total = bag.weighs (only (r ++ k ∷ [])) in
            let split = sum_by-append (only (r ++ k ∷ [])) (visited_paths notes) (flat_map (below t) others) in
            let tree_has : 0 < occurs (r ++ k ∷ []) (below t []) = below-has [] (r ++ k ∷ []) t.root n refl root e in
            let once = tree-once t ranked root r in
            let total_r = bag.weighs (only r) in
            let split_r = sum_by-append (only r) (visited_paths notes) (flat_map (below t) others) in
            let s = source (below t) others (r ++ k ∷ []) (omega arith) in
            let small = s.within r in
            let here = lies s.x (r ++ k ∷ []) s.has in
            let only_cuts : occurs s.x others ≡ occurs s.x (cut_paths notes) = ap (λ ps. occurs s.x (cut_paths notes ++ ps)) unsent ∙ ap (occurs s.x) (append-nil (cut_paths notes)) in
            let there = s.is_there in
            elim (split-push r s.x here.rest k here.is) [
              | inl up ↦
                  let above = on_way t.root r (k ∷ []) n root e in
                  let way = on_way t.root s.x up.rest above.node root (ap (node_at t.children t.root) (sym up.is) ∙ above.there) in
                  let has = below-has s.x up.rest way.node above.node way.there way.is_sound way.from in
                  let moved : 0 < occurs r (below t s.x) = subst (λ q. 0 < occurs q (below t s.x)) (sym up.is) has in
                  absurd (omega arith)
              | inr same ↦
                  let moved : 0 < occurs (r ++ k ∷ []) (cut_paths notes) = subst (λ q. 0 < occurs q (cut_paths notes)) same (omega arith) in
                  omega arith
            ]

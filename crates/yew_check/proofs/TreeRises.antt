-- The paths of a tree rise in preorder.
use Rattle.std.proofs.Common.{◌≡◌, ℕ, suc, ◌+◌, ◌≤◌, List, [], ◌∷◌, ◌++◌, length, drop, true, Some, slice_get, refl, sym, subst, arith}
use Rattle.std.specs.Prelude.{IsTrue}
use Rattle.std.specs.List.{AllByRecursion, flat_map}
use Rattle.std.proofs.lemmas.Option.{same_Some, option_and_then_some}
use Rattle.yew_laws.specs.Tree.{IsRanked, node_at}
use Rattle.yew_laws.specs.SearchTree.{SearchTree, at_path, below, tree_paths, numbered}
use Rattle.yew_laws.specs.Order.{comes_before}
use Rattle.yew_laws.proofs.Trees.{ranked_induction}
use Rattle.yew_laws.proofs.Steps.{drop_from_drop}
use Rattle.yew_laws.proofs.Members.{AllByRecursion-append, AllByRecursion-weaker, AllByRecursion-at}
use Rattle.yew_laws.proofs.PathTests.{before-itself, before-siblings}
use Rattle.yew_laws.proofs.Below.{AtOrBelow, InChild, in_child, wider, child-at, below-unfolds}
use Rattle.yew_laws.proofs.Once.{Once, once-step}
use Rattle.yew_check.specs.Marks.{Rises}
use Rattle.yew_check.proofs.Rising.{Rises-append}

-- these paths lie below a path by children of a range, and rise
record AreRising (path : List ℕ) (low high : ℕ) (ps : List (List ℕ)) : Type 0 where
  pub inside : AllByRecursion (InChild path low high) ps
  pub rises : Rises ps

before-later : (path : List ℕ) (a b c d : ℕ) → b ≤ c → (p : List ℕ) → InChild path a b p → (q : List ℕ) → InChild path c d q → IsTrue (comes_before p q)
before-later path a b c d le p u q v =
    let f = u.below in
    let g = v.from in
    subst (λ x. comes_before x q ≡ true) (sym u.is) (subst (λ y. comes_before (path ++ u.number ∷ u.rest) y ≡ true) (sym v.is) (before-siblings path u.number u.rest v.number v.rest (omega arith)))

rising-append : (path : List ℕ) (a b c d : ℕ) (xs ys : List (List ℕ)) → a ≤ b → b ≤ c → c ≤ d → AreRising path a b xs → AreRising path c d ys → AreRising path a d (xs ++ ys)
rising-append path a b c d xs ys ab bc cd s r = record {
  inside = AllByRecursion-append (InChild path a d) xs ys
      (AllByRecursion-weaker (InChild path a b) (InChild path a d) (wider path a b a d (omega arith) (omega arith)) xs s.inside)
      (AllByRecursion-weaker (InChild path c d) (InChild path a d) (wider path c d a d (omega arith) (omega arith)) ys r.inside);
  rises = Rises-append xs ys s.rises r.rises
      (AllByRecursion-weaker (InChild path a b) (λ x. AllByRecursion (λ y. IsTrue (comes_before x y)) ys)
      (λ x u. AllByRecursion-weaker (InChild path c d) (λ y. IsTrue (comes_before x y)) (before-later path a b c d bc x u) ys r.inside)
      xs s.inside);
}

module _ {N : Type 0} (t : SearchTree N) {sound : N → Type 0} (ranked : IsRanked sound t.children t.rank) where
  abbrev RisesBelow : N → Type 0
  RisesBelow n = (path : List ℕ) → at_path t path ≡ Some n → Rises (below t path)

  -- all that lies below a path lies there
  pub all-below : (path : List ℕ) (n : N) → at_path t path ≡ Some n → sound n → AllByRecursion (AtOrBelow path) (below t path)
  all-below path n e s = (ranked_induction ranked (Once t ranked) (once-step t ranked) n s path e).inside

  rising-kids : (path : List ℕ) (n : N) → at_path t path ≡ Some n → (k : ℕ) (cs : List N) → drop k (t.children n) ≡ cs → AllByRecursion sound cs → AllByRecursion RisesBelow cs → AreRising path k (k + length cs) (flat_map (below t) (numbered path k cs))
  rising-kids path n e k [] d ss a = record { inside = tt; rises = tt }
  rising-kids path n e k (c ∷ cs) d ss a =
      let at = child-at t path n e k c cs d in
      let rest = rising-kids path n e (suc k) cs (drop_from_drop (t.children n) k c cs d) ss.1 a.1 in
      let same : suc k + length cs ≡ k + suc (length cs) = omega arith in
      subst (λ h. AreRising path k h (below t (path ++ k ∷ []) ++ flat_map (below t) (numbered path (suc k) cs))) same
      (rising-append path k (suc k) (suc k) (suc k + length cs) (below t (path ++ k ∷ [])) (flat_map (below t) (numbered path (suc k) cs)) (omega arith) (omega arith) (omega arith)
      (record { inside = AllByRecursion-weaker (AtOrBelow (path ++ k ∷ [])) (InChild path k (suc k)) (in_child path k) (below t (path ++ k ∷ [])) (all-below (path ++ k ∷ []) c at ss.0); rises = a.0 (path ++ k ∷ []) at })
      rest)

  rising-step : (n : N) → sound n → AllByRecursion RisesBelow (t.children n) → RisesBelow n
  rising-step n s a path e =
      let kids = rising-kids path n e 0 (t.children n) refl (ranked.stays_sound n s) a in
      let ps = flat_map (below t) (numbered path 0 (t.children n)) in
      subst Rises (sym (below-unfolds t ranked path n e s))
      (AllByRecursion-weaker (InChild path 0 (0 + length (t.children n))) (λ p. IsTrue (comes_before path p)) (λ p u. subst (λ q. comes_before path q ≡ true) (sym u.is) (before-itself path u.number u.rest)) ps kids.inside, kids.rises)

  pub tree-rises : sound t.root → Rises (tree_paths t)
  tree-rises root = ranked_induction ranked RisesBelow rising-step t.root root [] refl

  -- a node that stands at a path is sound
  node-sound : (path : List ℕ) (n m : N) → sound n → node_at t.children n path ≡ Some m → sound m
  node-sound [] n m s e = subst sound (same_Some n m e) s
  node-sound (k ∷ ks) n m s e =
      option_and_then_some (λ c. node_at t.children c ks) (slice_get (t.children n) k) m e
      (λ c at below. node-sound ks c m (AllByRecursion-at sound (t.children n) k c at (ranked.stays_sound n s)) below)

  pub at-sound : sound t.root → (path : List ℕ) (m : N) → at_path t path ≡ Some m → sound m
  at-sound root path m e = node-sound path t.root m root e

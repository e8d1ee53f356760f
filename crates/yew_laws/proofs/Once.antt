-- No path stands twice in a tree, and so none is visited twice or both visited and cut.
use Rattle.std.proofs.Common.{◌≡◌, ◌≢◌, ℕ, zero, suc, ◌+◌, ◌≤◌, List, [], ◌∷◌, ◌++◌, length, drop, true, false, cond, Some, refl, ap, sym, subst, ◌∙◌, append-nil, arith, length-append}
use Rattle.std.specs.List.{AllByRecursion, flat_map}
use Rattle.std.proofs.lemmas.List.Sums.{sum_by-append, sum_by-cons}
use Rattle.yew_laws.specs.Tree.{IsRanked}
use Rattle.yew_laws.proofs.Trees.{ranked_induction}
use Rattle.yew_laws.proofs.Steps.{drop_from_drop}
use Rattle.yew_laws.proofs.Members.{AllByRecursion-append, AllByRecursion-weaker}
use Rattle.yew_laws.specs.SearchTree.{SearchTree, at_path, below, tree_paths, numbered}
use Rattle.yew_laws.specs.Order.{is_path, only, occurs}
use Rattle.yew_laws.specs.Cover.{Cover}
use Rattle.yew_laws.proofs.PathTests.{is_path-same, is_path-is, is_path-not, apart-path}
use Rattle.yew_laws.proofs.Bags.{none-weighs}
use Rattle.yew_laws.proofs.Weights.{all-weighs}
use Rattle.yew_laws.proofs.Below.{AtOrBelow, InChild, in_child, wider, child-at, below-unfolds}

-- these paths lie below a path by children of a range, each once
record AreOnce (path : List ℕ) (low high : ℕ) (ps : List (List ℕ)) : Type 0 where
  pub inside : AllByRecursion (InChild path low high) ps
  pub once : (p : List ℕ) → occurs p ps ≤ 1

-- these paths lie at or below a path, each once
pub record AreBelow (path : List ℕ) (ps : List (List ℕ)) : Type 0 where
  pub inside : AllByRecursion (AtOrBelow path) ps
  pub once : (p : List ℕ) → occurs p ps ≤ 1

not_elsewhere : (path : List ℕ) (a b c d : ℕ) → b ≤ c → (p : List ℕ) → InChild path a b p → (q : List ℕ) → InChild path c d q → q ≢ p
not_elsewhere path a b c d le p u q v e =
    let f = u.below in let g = v.from in
    is_path-not (path ++ u.number ∷ u.rest) (path ++ v.number ∷ v.rest)
    (apart-path path u.number u.rest v.number v.rest (λ same. absurd (omega arith)))
    (sym u.is ∙ sym e ∙ v.is)

once-append : (path : List ℕ) (a b c d : ℕ) (xs ys : List (List ℕ)) → a ≤ b → b ≤ c → c ≤ d → AreOnce path a b xs → AreOnce path c d ys → AreOnce path a d (xs ++ ys)
once-append path a b c d xs ys ab bc cd s r = record {
  inside = AllByRecursion-append (InChild path a d) xs ys
      (AllByRecursion-weaker (InChild path a b) (InChild path a d) (wider path a b a d (omega arith) (omega arith)) xs s.inside)
      (AllByRecursion-weaker (InChild path c d) (InChild path a d) (wider path c d a d (omega arith) (omega arith)) ys r.inside);
  once = λ p. at p (occurs p xs) refl;
}
  where
    at : (p : List ℕ) (n : ℕ) → occurs p xs ≡ n → occurs p (xs ++ ys) ≤ 1
    at p zero e = let w = sum_by-append (only p) xs ys in let f = r.once p in omega arith
    at p (suc n) e =
        let here : InChild path a b p = all-weighs is_path is_path-same is_path-is (InChild path a b) xs p s.inside (omega arith) in
        let none = none-weighs p ys (AllByRecursion-weaker (InChild path c d) (λ q. q ≢ p) (not_elsewhere path a b c d bc p here) ys r.inside) in
        let w = sum_by-append (only p) xs ys in
        let f = s.once p in
        omega arith

module _ {N : Type 0} (t : SearchTree N) {sound : N → Type 0} (ranked : IsRanked sound t.children t.rank) where
  abbrev pub Once : N → Type 0
  Once n = (path : List ℕ) → at_path t path ≡ Some n → AreBelow path (below t path)

  once-kids : (path : List ℕ) (n : N) → at_path t path ≡ Some n → (k : ℕ) (cs : List N) → drop k (t.children n) ≡ cs → AllByRecursion Once cs → AreOnce path k (k + length cs) (flat_map (below t) (numbered path k cs))
  once-kids path n e k [] d a = record { inside = tt; once = λ p. omega arith }
  once-kids path n e k (c ∷ cs) d a =
      let first = a.0 (path ++ k ∷ []) (child-at t path n e k c cs d) in
      let rest = once-kids path n e (suc k) cs (drop_from_drop (t.children n) k c cs d) a.1 in
      let same : suc k + length cs ≡ k + suc (length cs) = omega arith in
      subst (λ h. AreOnce path k h (below t (path ++ k ∷ []) ++ flat_map (below t) (numbered path (suc k) cs))) same
      (once-append path k (suc k) (suc k) (suc k + length cs) (below t (path ++ k ∷ [])) (flat_map (below t) (numbered path (suc k) cs)) (omega arith) (omega arith) (omega arith)
      (record { inside = AllByRecursion-weaker (AtOrBelow (path ++ k ∷ [])) (InChild path k (suc k)) (in_child path k) (below t (path ++ k ∷ [])) first.inside; once = first.once })
      rest)

  pub once-step : (n : N) → sound n → AllByRecursion Once (t.children n) → Once n
  once-step n s a path e =
      let kids = once-kids path n e 0 (t.children n) refl a in
      let ps = flat_map (below t) (numbered path 0 (t.children n)) in
      subst (AreBelow path) (sym (below-unfolds t ranked path n e s))
      (record {
        inside = (record { rest = []; is = sym (append-nil path) }, AllByRecursion-weaker (InChild path 0 (0 + length (t.children n))) (AtOrBelow path) (λ p u. record { rest = u.number ∷ u.rest; is = u.is }) ps kids.inside);
        once = λ p. by ps kids p;
      })
    where
      longer : (p : List ℕ) → InChild path 0 (0 + length (t.children n)) p → p ≢ path
      longer p u x = let m = ap length u.is ∙ length-append path (u.number ∷ u.rest) in let o = ap length x in absurd (omega (arith, m, o))

      by : (ps : List (List ℕ)) → AreOnce path 0 (0 + length (t.children n)) ps → (p : List ℕ) → occurs p (path ∷ ps) ≤ 1
      by ps kids p =
          elim (is_path p path) as (λ b. is_path p path ≡ b → occurs p (path ∷ ps) ≤ 1) [
            | true ↦ λ x.
                let same : p ≡ path = is_path-is p path x in
                let none = none-weighs p ps (AllByRecursion-weaker (InChild path 0 (0 + length (t.children n))) (λ q. q ≢ p) (λ q u y. longer q u (y ∙ same)) ps kids.inside) in
                let w = sum_by-cons (only p) path ps in
                let o : ◌≡◌ {A = ℕ} (only p path) 1 = ap (λ b. cond b 1 0) x in
                omega arith
            | false ↦ λ x.
                let w = sum_by-cons (only p) path ps in
                let o : ◌≡◌ {A = ℕ} (only p path) 0 = ap (λ b. cond b 1 0) x in
                let f = kids.once p in
                omega arith
          ]
          refl

  -- no path stands twice in the tree
  pub tree-once : sound t.root → (p : List ℕ) → occurs p (tree_paths t) ≤ 1
  tree-once root p = (ranked_induction ranked Once once-step t.root root [] refl).once p

  -- with a cover no node is visited twice, and none is visited and cut
  pub cover-once : sound t.root → (visited_ones cut_ones : List (List ℕ)) → Cover t visited_ones cut_ones → (p : List ℕ) → occurs p visited_ones + occurs p (flat_map (below t) cut_ones) ≤ 1
  cover-once root visited_ones cut_ones cover p =
      let same = cover.each_once.weighs (only p) in
      let w = sum_by-append (only p) visited_ones (flat_map (below t) cut_ones) in
      let one = tree-once root p in
      omega arith

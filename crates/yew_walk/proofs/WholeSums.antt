-- Where no node is an answer and none is cut, the one sequential log visits the whole tree in preorder.
use Rattle.std.proofs.Common.{◌≡◌, ℕ, zero, suc, ◌<◌, ◌≤◌, List, [], ◌∷◌, ◌++◌, max, Bool, true, false, Some, nat_le, if◌then◌else◌, refl, ap, ap₂, sym, subst, ◌∙◌, append-nil, arith, leb-true}
use Rattle.std.specs.List.{AllByRecursion}
use Rattle.std.proofs.lemmas.List.{map-append}
use Rattle.std.proofs.lemmas.Option.{same_Some}
use Rattle.yew_laws.specs.Fold.{fold_of, of_member, Fold}
use Rattle.yew_laws.specs.SearchTree.{SearchTree, preorder, at_path}
use Rattle.yew_laws.specs.Tree.{Member, forest, tree, prefixed, paths, IsRanked}
use Rattle.yew_laws.proofs.Incumbents.{prefixed-forest, prefixed-nil}
use Rattle.yew_laws.proofs.Members.{AllByRecursion-weaker}
use Rattle.yew_laws.proofs.Trees.{tree-unfolds, tree-node_at}
use Rattle.yew_log.specs.Attained.{limit}
use Rattle.yew_log.specs.Items.{in_turn}
use Rattle.yew_log.specs.Notes.{Note, visited, cut, ended, visited_paths}
use Rattle.yew_log.specs.SeqLog.{visited_worth, visit_notes, seq_log}
use Rattle.yew_log.proofs.Growth.{visited-append}
use Rattle.yew_log.proofs.SeqLaws.{worth-append}
use Rattle.yew_walk.specs.Hands.{AreVisited}
use Rattle.yew_walk.proofs.BestVisits.{leaf}

paths-append : {N : Type 0} (ms ns : List (Member N)) → paths (ms ++ ns) ≡ paths ms ++ paths ns
paths-append {N} ms ns = map-append (λ (m : Member N). m.path) ms ns

-- members that stand at the same paths are the same
pub members-same : {N : Type 0} (t : SearchTree N) (ms ns : List (Member N)) → paths ms ≡ paths ns → AllByRecursion (λ m. at_path t m.path ≡ Some m.node) ms → AllByRecursion (λ m. at_path t m.path ≡ Some m.node) ns → ms ≡ ns
members-same t [] [] e a b = refl
members-same t [] (n ∷ ns) e a b = absurd (cc)
members-same t (m ∷ ms) [] e a b = absurd (cc)
members-same {N} t (m ∷ ms) (n ∷ ns) e a b =
    let here : m.path ≡ n.path = cc in
    let later : paths ms ≡ paths ns = cc in
    let node : m.node ≡ n.node = same_Some m.node n.node (sym a.0 ∙ ap (at_path t) here ∙ b.0) in
    let head : ◌≡◌ {A = Member N} m n = ap₂ (λ (p : List ℕ) (x : N). record { path = p; node = x }) here node in
    ap₂ (λ (x : Member N) (xs : List (Member N)). x ∷ xs) head (members-same t ms ns later a.1 b.1)

module _ {N : Type 0} (t : SearchTree N) (no_answer : (n : N) → t.worth n ≡ 0) (promising : (n : N) → 0 < t.bound n) (gap : ℕ) where
  -- what holds of entries that visit these paths and find no answer
  record Finds (notes : List Note) (ps : List (List ℕ)) : Type 0 where
    pub none : visited_worth notes ≡ 0
    pub all : visited_paths notes ≡ ps

  Finds-append : (xs ys : List Note) (ps qs : List (List ℕ)) → Finds xs ps → Finds ys qs → Finds (xs ++ ys) (ps ++ qs)
  Finds-append xs ys ps qs a b = record {
    none = let w = worth-append xs ys in omega (arith, w, a.none, b.none);
    all = visited-append xs ys ∙ ap₂ (λ us vs. us ++ vs) a.all b.all;
  }

  module _ {sound : N → Type 0} (ranked : IsRanked sound t.children t.rank) where
    abbrev tree_of : N → List (Member N)
    tree_of = tree t.children t.rank

    tree-paths : (path : List ℕ) (n : N) → sound n → path ∷ paths (prefixed path (forest tree_of 0 (t.children n))) ≡ paths (prefixed path (tree_of n))
    tree-paths path n s =
        ap (λ p. p ∷ paths (prefixed path (forest tree_of 0 (t.children n)))) (sym (append-nil path))
        ∙ sym (ap (λ ms. paths (prefixed path ms)) (tree-unfolds ranked n s))

    closed-all : (path : List ℕ) (n : N) (inside : List Note) → sound n → Finds inside (paths (prefixed path (forest tree_of 0 (t.children n)))) → Finds (visited path (t.worth n) 0 ∷ inside ++ ended path ∷ []) (paths (prefixed path (tree_of n)))
    closed-all path n inside s f =
        let ps = paths (prefixed path (forest tree_of 0 (t.children n))) in
        let zero = no_answer n in
        let last = Finds-append inside (ended path ∷ []) ps [] f (record { none = refl; all = refl }) in
        let first : Finds (visited path (t.worth n) 0 ∷ []) (path ∷ []) = record { none = omega (arith, zero); all = refl } in
        subst (Finds (visited path (t.worth n) 0 ∷ inside ++ ended path ∷ []))
        (ap (λ qs. path ∷ qs) (append-nil ps) ∙ tree-paths path n s)
        (Finds-append (visited path (t.worth n) 0 ∷ []) (inside ++ ended path ∷ []) (path ∷ []) (ps ++ []) first last)

    module _ (levels : ℕ) (made : List ℕ → N → ℕ → List Note) (each : (path : List ℕ) (c : N) → sound c → t.rank c ≤ levels → Finds (made path c 0) (paths (prefixed path (tree_of c)))) where
      in_turn-all : (path : List ℕ) (k : ℕ) (cs : List N) → AllByRecursion sound cs → AllByRecursion (λ c. t.rank c ≤ levels) cs → Finds (in_turn visited_worth made path k cs 0) (paths (prefixed path (forest tree_of k cs)))
      in_turn-all path k [] s r = record { none = refl; all = refl }
      in_turn-all path k (c ∷ cs) s r =
          let first = made (path ++ k ∷ []) c 0 in
          let here = each (path ++ k ∷ []) c s.0 r.0 in
          let none : 0 ≡ max 0 (visited_worth first) = let z = here.none in omega (arith, z) in
          let later = paths (prefixed path (forest tree_of (suc k) cs)) in
          let others = in_turn visited_worth made path (suc k) cs in
          let held = max 0 (visited_worth first) in
          let rest : Finds (others held) later = subst (λ h. Finds (others h) later) none (in_turn-all path (suc k) cs s.1 r.1) in
          subst (Finds (first ++ others held))
          (sym (ap paths (prefixed-forest tree_of path k c cs) ∙ paths-append (prefixed (path ++ k ∷ []) (tree_of c)) (prefixed path (forest tree_of (suc k) cs))))
          (Finds-append first (others held) (paths (prefixed (path ++ k ∷ []) (tree_of c))) later here rest)

    -- a child, which is not cut
    child_notes-all : (levels : ℕ) → ((path : List ℕ) (n : N) → sound n → t.rank n ≤ levels → Finds (visit_notes t gap levels path n 0) (paths (prefixed path (tree_of n)))) → (path : List ℕ) (c : N) → sound c → t.rank c ≤ levels → Finds (if nat_le (t.bound c) (limit gap 0) then cut path (t.bound c) 0 ∷ [] else visit_notes t gap levels path c 0) (paths (prefixed path (tree_of c)))
    child_notes-all levels visit path c s low = by (nat_le (t.bound c) (limit gap 0)) refl
      where
        by : (v : Bool) → nat_le (t.bound c) (limit gap 0) ≡ v → Finds (if v then cut path (t.bound c) 0 ∷ [] else visit_notes t gap levels path c 0) (paths (prefixed path (tree_of c)))
        by true e = let small : t.bound c ≤ 0 = leb-true (t.bound c) (limit gap 0) e in let above = promising c in absurd (omega (arith, small, above))
        by false e = visit path c s low

    visit_notes-all : (levels : ℕ) (path : List ℕ) (n : N) → sound n → t.rank n ≤ levels → Finds (visit_notes t gap levels path n 0) (paths (prefixed path (tree_of n)))
    visit_notes-all zero path n s low =
        closed-all path n [] s
        (subst (λ cs. Finds [] (paths (prefixed path (forest tree_of 0 cs)))) (leaf ranked n s low) (record { none = refl; all = refl }))
    visit_notes-all (suc levels) path n s low =
        let made : List ℕ → N → ℕ → List Note = λ p c h. if nat_le (t.bound c) (limit gap h) then cut p (t.bound c) h ∷ [] else visit_notes t gap levels p c h in
        let inside = in_turn visited_worth made path 0 (t.children n) in
        let worth = no_answer n in
        let none : 0 ≡ max 0 (t.worth n) = omega (arith, worth) in
        let whole = closed-all path n (inside 0) s
        (in_turn-all levels made (child_notes-all levels (visit_notes-all levels)) path 0 (t.children n) (ranked.stays_sound n s)
        (AllByRecursion-weaker (λ c. t.rank c < t.rank n) (λ c. t.rank c ≤ levels) (λ c l. omega (arith, l, low)) (t.children n) (ranked.rank_falls n s))) in
        subst (λ h. Finds (visited path (t.worth n) 0 ∷ inside h ++ ended path ∷ []) (paths (prefixed path (tree_of n)))) none whole

    module _ (root : sound t.root) where
      -- all paths of the tree are visited, in preorder
      pub visited_paths-seq_log : visited_paths (seq_log t gap) ≡ paths (preorder t)
      visited_paths-seq_log = (visit_notes-all (t.rank t.root) [] t.root root (omega arith)).all ∙ ap paths (prefixed-nil (preorder t))

      -- the nodes that were visited are those of the tree
      pub AreVisited-preorder : (members : List (Member N)) → AreVisited t (seq_log t gap) members → members ≡ preorder t
      AreVisited-preorder members are = members-same t members (preorder t) (are.paths_are ∙ visited_paths-seq_log) are.there (tree-node_at ranked t.root root)

      -- and their sum is that of the tree
      pub AreVisited-Fold : {S : Type 0} (join : S → S → S) (none : S) (of : N → ℕ → S) (members : List (Member N)) → AreVisited t (seq_log t gap) members → fold_of join none (of_member of) members ≡ Fold t join none of
      AreVisited-Fold join none of members are = ap (fold_of join none (of_member of)) (AreVisited-preorder members are)

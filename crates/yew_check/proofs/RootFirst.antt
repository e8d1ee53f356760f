-- The first visit or cut of a whole tree is the visit of its root.
use Rattle.std.proofs.Common.{◌≡◌, ◌≢◌, ℕ, List, [], ◌∷◌, ◌++◌, Bool, true, false, cond, ◌&&◌, Some, refl, sym, ap, subst, ◌∙◌}
use Rattle.std.specs.Prelude.{IsTrue, MatchBool, IsSome}
use Rattle.std.specs.List.{AllByRecursion, Contains, flat_map}
use Rattle.std.proofs.lemmas.List.Elements.{All-contains, All-from_recursion}
use Rattle.yew_laws.specs.Order.{comes_before}
use Rattle.yew_laws.specs.SearchTree.{SearchTree, at_path, worth_at, bound_at, below, tree_paths}
use Rattle.yew_laws.proofs.Bags.{same-trans, same-is, same-cancel, same-append}
use Rattle.yew_laws.proofs.Members.{Contains-head, AllByRecursion-weaker}
use Rattle.yew_check.specs.Covering.{visit_in, visit_paths, TellsValues, StandFor, IsWhole}
use Rattle.yew_check.specs.Marks.{Mark, mark_paths, covers, Rises}

visit-in-all : (P : List ℕ → Type 0) (b : Bool) (p : List ℕ) (ps : List (List ℕ)) → P p → AllByRecursion P ps → AllByRecursion P (cond b (p ∷ []) [] ++ ps)
visit-in-all P true p ps h a = (h, a)
visit-in-all P false p ps h a = a

visits-all : (P : List ℕ → Type 0) (ms : List Mark) → AllByRecursion P (mark_paths ms) → AllByRecursion P (visit_paths ms)
visits-all P [] a = tt
visits-all P (m ∷ ms) a = visit-in-all P m.is_visit m.path (visit_paths ms) a.0 (visits-all P ms a.1)

none-before : (p q : List ℕ) → IsTrue (comes_before p q) → q ≢ []
none-before p [] h e = first p h
  where
    first : (p : List ℕ) → IsTrue (comes_before p []) → ⊥
    first [] h = let bad : false ≡ true = h in cc
    first (k ∷ ks) h = let bad : false ≡ true = h in cc
none-before p (k ∷ q) h e = cc

lacks-root : (ps : List (List ℕ)) → AllByRecursion (λ p. p ≢ []) ps → Contains ps [] → ⊥
lacks-root ps all c = All-contains (λ p. p ≢ []) ps [] (All-from_recursion (λ p. p ≢ []) ps all) c refl

later-visits : (m : Mark) (ms : List Mark) → Rises (mark_paths (m ∷ ms)) → AllByRecursion (λ p. p ≢ []) (visit_paths ms)
later-visits m ms rises = visits-all (λ p. p ≢ []) ms (AllByRecursion-weaker (λ p. IsTrue (comes_before m.path p)) (λ p. p ≢ []) (none-before m.path) (mark_paths ms) rises.0)

module _ {N : Type 0} (t : SearchTree N) where
  pub none-whole : IsWhole t [] → ⊥
  none-whole w = lacks-root [] tt w.root_visited

  pub cut-not_whole : (m : Mark) (ms : List Mark) → m.is_visit ≡ false → Rises (mark_paths (m ∷ ms)) → ¬ IsWhole t (m ∷ ms)
  cut-not_whole m ms cut rises w =
      let is : visit_in m ≡ [] = ap (λ b. cond b (m.path ∷ []) []) cut in
      lacks-root (visit_paths ms) (later-visits m ms rises) (subst (λ ps. Contains (ps ++ visit_paths ms) []) is w.root_visited)

  pub deep-not_whole : (m : Mark) (ms : List Mark) → m.path ≢ [] → Rises (mark_paths (m ∷ ms)) → ¬ IsWhole t (m ∷ ms)
  deep-not_whole m ms deep rises w = lacks-root (visit_paths (m ∷ ms)) (visit-in-all (λ p. p ≢ []) m.is_visit m.path (visit_paths ms) deep (later-visits m ms rises)) w.root_visited

  module _ (m : Mark) (ms : List Mark) (coming : List (List ℕ)) (is_visit : m.is_visit ≡ true) (here : m.path ≡ []) (tree_is : tree_paths t ≡ [] ∷ coming) where
    root-covers : covers t m ≡ [] ∷ []
    root-covers = ap (λ b. cond b (m.path ∷ []) (below t m.path)) is_visit ∙ ap (λ (p : List ℕ). p ∷ []) here

    pub root-whole : StandFor t ms coming → IsWhole t (m ∷ ms)
    root-whole s = record {
      stand_for = record {
        are_there = (subst (λ p. IsSome (at_path t p)) (sym here) refl, s.are_there);
        same = same-trans (same-append (same-is root-covers) s.same) (same-is (sym tree_is));
      };
      root_visited = subst (λ ps. Contains (ps ++ visit_paths ms) []) (sym (ap (λ b. cond b (m.path ∷ []) []) is_visit ∙ ap (λ (p : List ℕ). p ∷ []) here)) (Contains-head [] (visit_paths ms));
    }

    pub whole-rest : IsWhole t (m ∷ ms) → StandFor t ms coming
    whole-rest w =
        let s = w.stand_for in
        let all = s.are_there in
        record {
          are_there = all.1;
          same = same-cancel (covers t m) ([] ∷ []) (flat_map (covers t) ms) coming (same-is root-covers) (same-trans s.same (same-is tree_is));
        }

    valued : cond m.is_visit (worth_at t m.path) (bound_at t m.path) ≡ worth_at t []
    valued = ap (λ b. cond b (worth_at t m.path) (bound_at t m.path)) is_visit ∙ ap (worth_at t) here

    pub root-values : (a b : Bool) → MatchBool a (worth_at t [] ≡ Some m.value) (worth_at t [] ≢ Some m.value) → TellsValues t ms b → TellsValues t (m ∷ ms) (a && b)
    root-values true true h k = (valued ∙ h, k)
    root-values true false h k = λ all. k all.1
    root-values false b h k = λ all. h (sym valued ∙ all.0)

-- What is judged of the visits and cuts in the order of their paths holds of the entries of the logs.
use Rattle.std.proofs.Common.{◌≡◌, ◌≢◌, ℕ, ◌≤◌, ◌⊎◌, List, [], ◌∷◌, ◌++◌, Bool, true, false, cond, Some, refl, sym, ap, subst, ◌∙◌, arith, inl, inr}
use Rattle.std.specs.Prelude.{IsTrue, IsSome, ◌==◌}
use Rattle.std.specs.List.{AllByRecursion, Contains, flat_map}
use Rattle.std.specs.List.Sorted.{IsPermutation}
use Rattle.std.proofs.lemmas.List.Elements.{All-from_recursion, recursion_from_All}
use Rattle.std.proofs.lemmas.List.Sorted.{All-permutation, IsPermutation-sym, IsPermutation-map}
use Rattle.std.proofs.lemmas.List.Sums.{sum_by-cons, sum_by-append}
use Rattle.yew_laws.specs.Bag.{SameBag}
use Rattle.yew_laws.specs.Order.{comes_before, is_path, only, occurs}
use Rattle.yew_laws.specs.SearchTree.{SearchTree, at_path, worth_at, bound_at, below}
use Rattle.yew_laws.proofs.Bags.{same-refl, same-trans, same-sym, same-cons, same-flat_map, same-permutation, none-weighs}
use Rattle.yew_laws.proofs.Members.{AllByRecursion-append, AllByRecursion-weaker}
use Rattle.yew_laws.proofs.PathTests.{is_path-same, is_path-is, nat_same, nat-is}
use Rattle.yew_laws.proofs.Weights.{contains-weighs, contains-has_weight}
use Rattle.yew_log.specs.Attained.{Attained, limit}
use Rattle.yew_log.specs.Notes.{Note, taken, visited, cut, spawned, handed, ended, Judgement, paths, values, judgements, visits, cuts, visited_paths, cut_paths}
use Rattle.yew_check.specs.declared.judging.Judged.{Judged}
use Rattle.yew_check.specs.declared.judging.Judged.TheVariants.{Covers, Double, Cover as NoCover, Number}
use Rattle.yew_check.specs.Covering.{visit_paths, AreThere, IsWhole}
use Rattle.yew_check.specs.Judging.{HasDouble, IsCovered, HasNumbers, Judges, JudgesMarks}
use Rattle.yew_check.specs.Marks.{Mark, marks, mark_paths, covers, worths, IsTwice, IsValued, IsCaused, Rises}
use Rattle.yew_check.proofs.Rising.{before-not}

-- ---- the paths

paths-same : (notes : List Note) → mark_paths (marks notes) ≡ paths (judgements notes)
paths-same [] = refl
paths-same (taken p ∷ ns) = paths-same ns
paths-same (visited p w h ∷ ns) = ap (λ (ps : List (List ℕ)). p ∷ ps) (paths-same ns)
paths-same (cut p b h ∷ ns) = ap (λ (ps : List (List ℕ)). p ∷ ps) (paths-same ns)
paths-same (spawned p ∷ ns) = paths-same ns
paths-same (handed p ∷ ns) = paths-same ns
paths-same (ended p ∷ ns) = paths-same ns

visits-same : (notes : List Note) → visit_paths (marks notes) ≡ visited_paths notes
visits-same [] = refl
visits-same (taken p ∷ ns) = visits-same ns
visits-same (visited p w h ∷ ns) = ap (λ (ps : List (List ℕ)). p ∷ ps) (visits-same ns)
visits-same (cut p b h ∷ ns) = visits-same ns
visits-same (spawned p ∷ ns) = visits-same ns
visits-same (handed p ∷ ns) = visits-same ns
visits-same (ended p ∷ ns) = visits-same ns

worths-same : (notes : List Note) → worths (marks notes) ≡ values (visits notes)
worths-same [] = refl
worths-same (taken p ∷ ns) = worths-same ns
worths-same (visited p w h ∷ ns) = ap (λ (ws : List ℕ). w ∷ ws) (worths-same ns)
worths-same (cut p b h ∷ ns) = worths-same ns
worths-same (spawned p ∷ ns) = worths-same ns
worths-same (handed p ∷ ns) = worths-same ns
worths-same (ended p ∷ ns) = worths-same ns

-- a path that rises stands once
rises-once : (ps : List (List ℕ)) → Rises ps → (p : List ℕ) → occurs p ps ≤ 1
rises-once [] r p = omega arith
rises-once (q ∷ ps) r p = go (is_path p q) refl (rises-once ps r.1 p)
  where
    go : (b : Bool) → is_path p q ≡ b → occurs p ps ≤ 1 → occurs p (q ∷ ps) ≤ 1
    go false e rest =
        let w = sum_by-cons (only p) q ps in
        let o : ◌≡◌ {A = ℕ} (only p q) 0 = ap (λ b. cond b 1 0) e in
        omega arith
    go true e rest =
        let same : p ≡ q = is_path-is p q e in
        let none = none-weighs p ps (AllByRecursion-weaker (λ r. IsTrue (comes_before q r)) (λ r. r ≢ p) (λ r later f. before-not q (subst (λ z. comes_before q z ≡ true) (f ∙ same) later)) ps r.0) in
        let w = sum_by-cons (only p) q ps in
        let o : ◌≡◌ {A = ℕ} (only p q) 1 = ap (λ b. cond b 1 0) e in
        omega arith

-- ---- what moves with the order

all-moves : {X : Type 0} (P : X → Type 0) (xs ys : List X) → IsPermutation xs ys → AllByRecursion P xs → AllByRecursion P ys
all-moves P xs ys p a = recursion_from_All P ys (All-permutation P xs ys p (All-from_recursion P xs a))

path-contains : (ps qs : List (List ℕ)) → SameBag ps qs → (p : List ℕ) → Contains ps p → Contains qs p
path-contains ps qs bag p c =
    let h = contains-has_weight is_path is_path-same is_path-is ps p c in
    let w = bag.weighs (only p) in
    contains-weighs is_path is_path-same is_path-is qs p (omega arith)

number-contains : (xs ys : List ℕ) → SameBag xs ys → (n : ℕ) → Contains xs n → Contains ys n
number-contains xs ys bag n c =
    let h = contains-has_weight ◌==◌ nat_same nat-is xs n c in
    let w = bag.weighs (λ y. cond (n == y) 1 0) in
    contains-weighs ◌==◌ nat_same nat-is ys n (omega arith)

module _ {N : Type 0} (t : SearchTree N) where
  -- the visits and cuts stand for the visited paths and all at and below the cut ones
  stands-same : (notes : List Note) → SameBag (flat_map (covers t) (marks notes)) (visited_paths notes ++ flat_map (below t) (cut_paths notes))
  stands-same [] = same-refl []
  stands-same (taken p ∷ ns) = stands-same ns
  stands-same (visited p w h ∷ ns) = same-cons p (stands-same ns)
  stands-same (cut p b h ∷ ns) = record {
    weighs = λ f.
        let r = (stands-same ns).weighs f in
        let x = sum_by-append f (below t p) (flat_map (covers t) (marks ns)) in
        let y = sum_by-append f (visited_paths ns) (below t p ++ flat_map (below t) (cut_paths ns)) in
        let z = sum_by-append f (below t p) (flat_map (below t) (cut_paths ns)) in
        let u = sum_by-append f (visited_paths ns) (flat_map (below t) (cut_paths ns)) in
        omega arith;
  }
  stands-same (spawned p ∷ ns) = stands-same ns
  stands-same (handed p ∷ ns) = stands-same ns
  stands-same (ended p ∷ ns) = stands-same ns

  there-paths : (ms : List Mark) → AreThere t ms → AllByRecursion (λ path. IsSome (at_path t path)) (mark_paths ms)
  there-paths [] a = tt
  there-paths (m ∷ ms) a = (a.0, there-paths ms a.1)

  paths-there : (ms : List Mark) → AllByRecursion (λ path. IsSome (at_path t path)) (mark_paths ms) → AreThere t ms
  paths-there [] a = tt
  paths-there (m ∷ ms) a = (a.0, paths-there ms a.1)

  module _ (notes : List Note) (ms : List Mark) (moved : IsPermutation (marks notes) ms) where
    abbrev bag : SameBag (marks notes) ms
    bag = same-permutation (marks notes) ms moved

    double-notes : IsTwice (mark_paths ms) → HasDouble notes
    double-notes twice =
        let w = (same-permutation (mark_paths (marks notes)) (mark_paths ms) (IsPermutation-map (λ (m : Mark). m.path) (marks notes) ms moved)).weighs (only twice.0) in
        let e = ap (occurs twice.0) (paths-same notes) in
        let h = twice.1 in
        (twice.0, omega arith)

    single-notes : Rises (mark_paths ms) → ¬ HasDouble notes
    single-notes rises double =
        let w = (same-permutation (mark_paths (marks notes)) (mark_paths ms) (IsPermutation-map (λ (m : Mark). m.path) (marks notes) ms moved)).weighs (only double.0) in
        let e = ap (occurs double.0) (paths-same notes) in
        let h = double.1 in
        let once = rises-once (mark_paths ms) rises double.0 in
        absurd (omega arith)

    covered-notes : IsWhole t ms → IsCovered t notes
    covered-notes w =
        let s = w.stand_for in
        let there = all-moves (λ (m : Mark). IsSome (at_path t m.path)) ms (marks notes) (IsPermutation-sym (marks notes) ms moved) s.are_there in
        record {
          in_tree = subst (AllByRecursion (λ path. IsSome (at_path t path))) (paths-same notes) (there-paths (marks notes) there);
          cover = record {
            root_visited = subst (λ ps. Contains ps []) (visits-same notes) (path-contains (visit_paths ms) (visit_paths (marks notes)) (same-sym (same-flat_map (λ (m : Mark). cond m.is_visit (m.path ∷ []) []) bag)) [] w.root_visited);
            each_once = same-trans (same-sym (stands-same notes)) (same-trans (same-flat_map (covers t) bag) s.same);
          };
        }

    notes-covered : IsCovered t notes → IsWhole t ms
    notes-covered c =
        let v = c.cover in
        let there = paths-there (marks notes) (subst (AllByRecursion (λ path. IsSome (at_path t path))) (sym (paths-same notes)) c.in_tree) in
        record {
          stand_for = record {
            are_there = all-moves (λ (m : Mark). IsSome (at_path t m.path)) (marks notes) ms moved there;
            same = same-trans (same-sym (same-flat_map (covers t) bag)) (same-trans (stands-same notes) v.each_once);
          };
          root_visited = path-contains (visit_paths (marks notes)) (visit_paths ms) (same-flat_map (λ (m : Mark). cond m.is_visit (m.path ∷ []) []) bag) [] (subst (λ ps. Contains ps []) (sym (visits-same notes)) v.root_visited);
        }

-- ---- the numbers

module _ {N : Type 0} (t : SearchTree N) where
  abbrev Worths : List Judgement → Type 0
  Worths js = AllByRecursion (λ (v : Judgement). worth_at t v.path ≡ Some v.value) js

  abbrev Bounds : List Judgement → Type 0
  Bounds js = AllByRecursion (λ (c : Judgement). bound_at t c.path ≡ Some c.value) js

  valued-notes : (notes : List Note) → AllByRecursion (IsValued t) (marks notes) → Worths (visits notes) × Bounds (cuts notes)
  valued-notes [] a = (tt, tt)
  valued-notes (taken p ∷ ns) a = valued-notes ns a
  valued-notes (visited p w h ∷ ns) a = let r = valued-notes ns a.1 in ((a.0, r.0), r.1)
  valued-notes (cut p b h ∷ ns) a = let r = valued-notes ns a.1 in (r.0, (a.0, r.1))
  valued-notes (spawned p ∷ ns) a = valued-notes ns a
  valued-notes (handed p ∷ ns) a = valued-notes ns a
  valued-notes (ended p ∷ ns) a = valued-notes ns a

  notes-valued : (notes : List Note) → Worths (visits notes) → Bounds (cuts notes) → AllByRecursion (IsValued t) (marks notes)
  notes-valued [] v c = tt
  notes-valued (taken p ∷ ns) v c = notes-valued ns v c
  notes-valued (visited p w h ∷ ns) v c = (v.0, notes-valued ns v.1 c)
  notes-valued (cut p b h ∷ ns) v c = (c.0, notes-valued ns v c.1)
  notes-valued (spawned p ∷ ns) v c = notes-valued ns v c
  notes-valued (handed p ∷ ns) v c = notes-valued ns v c
  notes-valued (ended p ∷ ns) v c = notes-valued ns v c

-- a held value that is 0 or one of these
abbrev IsHeld : List ℕ → Judgement → Type 0
IsHeld known j = (j.held ≡ 0) ⊎ Contains known j.held

record Caused (gap : ℕ) (known : List ℕ) (notes : List Note) : Type 0 where
  permitted : AllByRecursion (λ (c : Judgement). c.value ≤ limit gap c.held) (cuts notes)
  of_visits : AllByRecursion (IsHeld known) (visits notes)
  of_cuts : AllByRecursion (IsHeld known) (cuts notes)

caused-notes : (gap : ℕ) (known : List ℕ) (notes : List Note) → AllByRecursion (IsCaused gap known) (marks notes) → Caused gap known notes
caused-notes gap known [] a = record { permitted = tt; of_visits = tt; of_cuts = tt }
caused-notes gap known (taken p ∷ ns) a = let r = caused-notes gap known ns a in record { permitted = r.permitted; of_visits = r.of_visits; of_cuts = r.of_cuts }
caused-notes gap known (visited p w h ∷ ns) a = let r = caused-notes gap known ns a.1 in let c = a.0 in record { permitted = r.permitted; of_visits = (c.attained, r.of_visits); of_cuts = r.of_cuts }
caused-notes gap known (cut p b h ∷ ns) a = let r = caused-notes gap known ns a.1 in let c = a.0 in record { permitted = (c.permitted, r.permitted); of_visits = r.of_visits; of_cuts = (c.attained, r.of_cuts) }
caused-notes gap known (spawned p ∷ ns) a = let r = caused-notes gap known ns a in record { permitted = r.permitted; of_visits = r.of_visits; of_cuts = r.of_cuts }
caused-notes gap known (handed p ∷ ns) a = let r = caused-notes gap known ns a in record { permitted = r.permitted; of_visits = r.of_visits; of_cuts = r.of_cuts }
caused-notes gap known (ended p ∷ ns) a = let r = caused-notes gap known ns a in record { permitted = r.permitted; of_visits = r.of_visits; of_cuts = r.of_cuts }

notes-caused : (gap : ℕ) (known : List ℕ) (notes : List Note) → AllByRecursion (λ (c : Judgement). c.value ≤ limit gap c.held) (cuts notes) → AllByRecursion (IsHeld known) (visits notes) → AllByRecursion (IsHeld known) (cuts notes) → AllByRecursion (IsCaused gap known) (marks notes)
notes-caused gap known [] p v c = tt
notes-caused gap known (taken q ∷ ns) p v c = notes-caused gap known ns p v c
notes-caused gap known (visited q w h ∷ ns) p v c = (record { permitted = tt; attained = v.0 }, notes-caused gap known ns p v.1 c)
notes-caused gap known (cut q b h ∷ ns) p v c = (record { permitted = p.0; attained = c.0 }, notes-caused gap known ns p.1 v c.1)
notes-caused gap known (spawned q ∷ ns) p v c = notes-caused gap known ns p v c
notes-caused gap known (handed q ∷ ns) p v c = notes-caused gap known ns p v c
notes-caused gap known (ended q ∷ ns) p v c = notes-caused gap known ns p v c

known-moves : (gap : ℕ) (xs ys : List ℕ) → SameBag xs ys → (m : Mark) → IsCaused gap xs m → IsCaused gap ys m
known-moves gap xs ys bag m h = record {
  permitted = h.permitted;
  attained = elim h.attained [ inl z ↦ inl z | inr c ↦ inr (number-contains xs ys bag m.held c) ];
}

all-parts : {X : Type 0} (P : X → Type 0) (xs ys : List X) → AllByRecursion P (xs ++ ys) → AllByRecursion P xs × AllByRecursion P ys
all-parts P [] ys a = (tt, a)
all-parts P (x ∷ xs) ys a = let r = all-parts P xs ys a.1 in ((a.0, r.0), r.1)

module _ {N : Type 0} (t : SearchTree N) (gap : ℕ) (notes : List Note) (ms : List Mark) (moved : IsPermutation (marks notes) ms) where
  abbrev known-bag : SameBag (worths (marks notes)) (worths ms)
  known-bag = same-flat_map (λ (m : Mark). cond m.is_visit (m.value ∷ []) []) (same-permutation (marks notes) ms moved)

  numbers-notes : HasNumbers t gap ms → Attained t gap (visits notes) (cuts notes)
  numbers-notes h =
      let back = IsPermutation-sym (marks notes) ms moved in
      let valued = valued-notes t notes (all-moves (IsValued t) ms (marks notes) back h.valued) in
      let here = AllByRecursion-weaker (IsCaused gap (worths ms)) (IsCaused gap (worths (marks notes))) (known-moves gap (worths ms) (worths (marks notes)) (same-sym known-bag)) (marks notes) (all-moves (IsCaused gap (worths ms)) ms (marks notes) back h.caused) in
      let c = caused-notes gap (values (visits notes)) notes (subst (λ ws. AllByRecursion (IsCaused gap ws) (marks notes)) (worths-same notes) here) in
      record {
        worths = valued.0;
        bounds = valued.1;
        permitted = c.permitted;
        attained = AllByRecursion-append (IsHeld (values (visits notes))) (visits notes) (cuts notes) c.of_visits c.of_cuts;
      }

  notes-numbers : Attained t gap (visits notes) (cuts notes) → HasNumbers t gap ms
  notes-numbers a =
      let held = all-parts (IsHeld (values (visits notes))) (visits notes) (cuts notes) a.attained in
      let here = notes-caused gap (values (visits notes)) notes a.permitted held.0 held.1 in
      let own = subst (λ ws. AllByRecursion (IsCaused gap ws) (marks notes)) (sym (worths-same notes)) here in
      record {
        valued = all-moves (IsValued t) (marks notes) ms moved (notes-valued t notes a.worths a.bounds);
        caused = all-moves (IsCaused gap (worths ms)) (marks notes) ms moved (AllByRecursion-weaker (IsCaused gap (worths (marks notes))) (IsCaused gap (worths ms)) (known-moves gap (worths (marks notes)) (worths ms) known-bag) (marks notes) own);
      }

  pub notes-judged : (judged : Judged) → JudgesMarks t gap ms judged → Judges t gap notes judged
  notes-judged Double h = double-notes t notes ms moved h
  notes-judged NoCover h = (single-notes t notes ms moved h.0, λ c. h.1 (notes-covered t notes ms moved c))
  notes-judged Number h = (single-notes t notes ms moved h.0, covered-notes t notes ms moved h.1, λ a. h.2 (notes-numbers a))
  notes-judged Covers h = (single-notes t notes ms moved h.0, covered-notes t notes ms moved h.1, numbers-notes h.2)

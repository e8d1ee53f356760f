-- Of a segment that may have been broken off each path is one of the tree, and none has two entries of a kind.
use Rattle.std.proofs.Common.{◌≡◌, ℕ, ◌+◌, ◌<◌, ◌≤◌, List, [], ◌∷◌, ◌++◌, Bool, true, false, cond, ◌⊎◌, inl, inr, Option, Some, None, refl, ap, sym, subst, ◌∙◌, append-nil, arith, Contains}
use Rattle.std.specs.Prelude.{IsSome}
use Rattle.std.specs.Option.{option_map}
use Rattle.std.specs.List.{AllByRecursion, flat_map}
use Rattle.std.proofs.lemmas.List.Elements.{All-contains, All-from_recursion}
use Rattle.std.proofs.lemmas.List.Sums.{sum_by-append, sum_by-cons}
use Rattle.yew_laws.specs.Bag.{PartOfBag}
use Rattle.yew_laws.specs.Order.{is_path, only, occurs}
use Rattle.yew_laws.specs.SearchTree.{SearchTree, at_path, worth_at, bound_at, below, below_node, numbered}
use Rattle.yew_laws.specs.Tree.{Member, tree, IsRanked}
use Rattle.yew_laws.proofs.Bags.{only-itself}
use Rattle.yew_laws.proofs.Below.{below-unfolds}
use Rattle.yew_laws.proofs.Members.{AllByRecursion-append, AllByRecursion-map, AllByRecursion-weaker}
use Rattle.yew_laws.proofs.Once.{Once, once-step}
use Rattle.yew_laws.proofs.PathTests.{is_path-is}
use Rattle.yew_laws.proofs.Trees.{ranked_induction, tree-contains, tree-sound}
use Rattle.yew_log.specs.HeldValues.{KeyKind}
use Rattle.yew_log.specs.Lawful.{IsBrokenWalk}
use Rattle.yew_log.specs.Notes.{Note, taken, visited, cut, spawned, handed, ended, Judgement, path_of, paths, visits, cuts, judgements, ended_in, taken_paths, visited_paths, cut_paths, sent_paths, ended_paths}
use Rattle.yew_log.specs.Places.{AtEach}
use Rattle.yew_log.specs.Segment.{Segment, segment, entries, entries_in, EndsVisits, IsOnce, OneOfAKind, AreOfTree, IsValued, IsBroken, covered_paths}
use Rattle.yew_log.proofs.Growth.{visited-append}

only-once : (p q : List ℕ) → only p q ≤ 1
only-once p q = by (is_path p q)
  where
    by : (v : Bool) → cond v 1 0 ≤ 1
    by true = omega arith
    by false = omega arith

-- one path is once there
pub once-one : (path : List ℕ) → IsOnce (path ∷ [])
once-one path p = let a = sum_by-cons (only p) path [] in let b = only-once p path in omega (arith, a, b)

-- a path is judged as often as it is visited and cut
judgements-parts : (p : List ℕ) (notes : List Note) → occurs p (paths (judgements notes)) ≡ occurs p (visited_paths notes) + occurs p (cut_paths notes)
judgements-parts p [] = omega arith
judgements-parts p (taken q ∷ ns) = judgements-parts p ns
judgements-parts p (spawned q ∷ ns) = judgements-parts p ns
judgements-parts p (handed q ∷ ns) = judgements-parts p ns
judgements-parts p (ended q ∷ ns) = judgements-parts p ns
judgements-parts p (visited q w h ∷ ns) =
    let a = sum_by-cons (only p) q (paths (judgements ns)) in let b = sum_by-cons (only p) q (visited_paths ns) in let c = judgements-parts p ns in a ∙ omega arith
judgements-parts p (cut q w h ∷ ns) =
    let a = sum_by-cons (only p) q (paths (judgements ns)) in let b = sum_by-cons (only p) q (cut_paths ns) in let c = judgements-parts p ns in a ∙ omega arith

-- a value is there only where there is what it is made of
there-from : {X Y : Type 0} (f : X → Y) (o : Option X) (y : Y) → option_map f o ≡ Some y → IsSome o
there-from f None y e = absurd (cc)
there-from f (Some x) y e = refl

module _ {N : Type 0} (t : SearchTree N) where
  abbrev IsThere : List ℕ → Type 0
  IsThere path = IsSome (at_path t path)

  visits-there : (notes : List Note) → AllByRecursion (λ v. worth_at t v.path ≡ Some v.value) (visits notes) → AllByRecursion IsThere (visited_paths notes)
  visits-there notes a =
      AllByRecursion-map IsThere (λ (j : Judgement). j.path) (visits notes)
      (AllByRecursion-weaker (λ (v : Judgement). worth_at t v.path ≡ Some v.value) (λ v. IsThere v.path) (λ v e. there-from t.worth (at_path t v.path) v.value e) (visits notes) a)

  cuts-there : (notes : List Note) → AllByRecursion (λ c. bound_at t c.path ≡ Some c.value) (cuts notes) → AllByRecursion IsThere (cut_paths notes)
  cuts-there notes a =
      AllByRecursion-map IsThere (λ (j : Judgement). j.path) (cuts notes)
      (AllByRecursion-weaker (λ (v : Judgement). bound_at t v.path ≡ Some v.value) (λ v. IsThere v.path) (λ v e. there-from t.bound (at_path t v.path) v.value e) (cuts notes) a)

  visits-push : (before : List Note) (note : Note) → AllByRecursion IsThere (visited_paths before) → AllByRecursion IsThere (visited_paths (note ∷ [])) → AllByRecursion IsThere (visited_paths (before ++ note ∷ []))
  visits-push before note a b =
      subst (AllByRecursion IsThere) (sym (visited-append before (note ∷ []))) (AllByRecursion-append IsThere (visited_paths before) (visited_paths (note ∷ [])) a b)

  -- the paths of all entries are there: an end's is that of an earlier visit
  notes-there : (before notes : List Note) → AllByRecursion IsThere (visited_paths before) → AllByRecursion IsThere (taken_paths notes) → AllByRecursion IsThere (visited_paths notes) → AllByRecursion IsThere (cut_paths notes) → AllByRecursion IsThere (sent_paths notes) → AtEach (λ b note after. AllByRecursion (λ p. Contains (visited_paths b) p) (ended_in note)) before notes → AllByRecursion (λ note. IsThere (path_of note)) notes
  notes-there before [] b x v c s e = tt
  notes-there before (taken p ∷ ns) b x v c s e = (x.0, notes-there (before ++ taken p ∷ []) ns (visits-push before (taken p) b tt) x.1 v c s e.1)
  notes-there before (visited p w h ∷ ns) b x v c s e = (v.0, notes-there (before ++ visited p w h ∷ []) ns (visits-push before (visited p w h) b (v.0, tt)) x v.1 c s e.1)
  notes-there before (cut p w h ∷ ns) b x v c s e = (c.0, notes-there (before ++ cut p w h ∷ []) ns (visits-push before (cut p w h) b tt) x v c.1 s e.1)
  notes-there before (spawned p ∷ ns) b x v c s e = (s.0, notes-there (before ++ spawned p ∷ []) ns (visits-push before (spawned p) b tt) x v c s.1 e.1)
  notes-there before (handed p ∷ ns) b x v c s e = (s.0, notes-there (before ++ handed p ∷ []) ns (visits-push before (handed p) b tt) x v c s.1 e.1)
  notes-there before (ended p ∷ ns) b x v c s e =
      (All-contains IsThere (visited_paths before) p (All-from_recursion IsThere (visited_paths before) b) e.0.0, notes-there (before ++ ended p ∷ []) ns (visits-push before (ended p) b tt) x v c s e.1)

  module _ {sound : N → Type 0} (ranked : IsRanked sound t.children t.rank) (root : sound t.root) where
    node-sound : (path : List ℕ) (n : N) → at_path t path ≡ Some n → sound n
    node-sound path n e =
        All-contains (λ (m : Member N). sound m.node) (tree t.children t.rank t.root) (record { path = path; node = n })
        (All-from_recursion (λ (m : Member N). sound m.node) (tree t.children t.rank t.root) (tree-sound ranked t.root root))
        (tree-contains ranked path t.root n root e)

    -- a path of the tree is among those at and below it
    occurs-itself : (path : List ℕ) → IsThere path → 0 < occurs path (below t path)
    occurs-itself path there = by (at_path t path) refl there
      where
        by : (o : Option N) → at_path t path ≡ o → IsSome o → 0 < occurs path (below t path)
        by None e s = absurd (cc)
        by (Some n) e s =
            let lower = flat_map (below t) (numbered path 0 (t.children n)) in
            let a = ap (occurs path) (below-unfolds t ranked path n e (node-sound path n e)) in
            let b = sum_by-cons (only path) path lower in
            let c = only-itself path in
            omega arith

    -- and so paths of the tree occur at most as often as what lies at and below them
    occurs-below : (path : List ℕ) (ps : List (List ℕ)) → AllByRecursion IsThere ps → occurs path ps ≤ occurs path (flat_map (below t) ps)
    occurs-below path [] a = omega arith
    occurs-below path (p ∷ ps) a =
        let rest = occurs-below path ps a.1 in
        let b = sum_by-cons (only path) p ps in
        let c = sum_by-append (only path) (below t p) (flat_map (below t) ps) in
        let d = one (is_path path p) refl in
        omega arith
      where
        one : (v : Bool) → is_path path p ≡ v → only path p ≤ occurs path (below t p)
        one true e =
            let same = is_path-is path p e in
            let here = subst (λ q. 0 < occurs path (below t q)) same (occurs-itself path (subst IsThere (sym same) a.0)) in
            let o : ◌≡◌ {A = ℕ} (only path p) 1 = ap (λ b. cond b 1 0) e in
            omega arith
        one false e = let o : ◌≡◌ {A = ℕ} (only path p) 0 = ap (λ b. cond b 1 0) e in omega arith

    -- no path stands twice at and below a path
    below-once : (task path : List ℕ) → occurs path (below t task) ≤ 1
    below-once task path = by (at_path t task) refl
      where
        by : (o : Option N) → at_path t task ≡ o → occurs path (below t task) ≤ 1
        by None e = let none = ap (λ ps. occurs path ps) (ap (below_node t task) e) in omega arith
        by (Some n) e = (ranked_induction ranked (Once t ranked) (once-step t ranked) n (node-sound task n e) task e).once path

    -- a segment that covers a part of what lies below its task, a path of the tree, where what is sent is of the tree
    module _ (task : List ℕ) (body : List Note) (there : IsThere task) (sent : AllByRecursion IsThere (sent_paths body)) (untaken : taken_paths body ≡ []) (ends : EndsVisits body) (ends_once : IsOnce (ended_paths body)) (valued : IsValued t body) (part : PartOfBag (covered_paths t body) (below t task)) where
      pub segment-of_tree : AreOfTree t (taken task ∷ body)
      segment-of_tree = (there, notes-there [] body tt (subst (AllByRecursion IsThere) (sym untaken) tt) (visits-there body valued.worths) (cuts-there body valued.bounds) sent ends)

      all-once : (p : List ℕ) → occurs p (visited_paths body) + occurs p (cut_paths body) + occurs p (sent_paths body) ≤ 1
      all-once p =
          let others = cut_paths body ++ sent_paths body in
          let a = part.weighs (only p) in
          let c = sum_by-append (only p) (visited_paths body) (flat_map (below t) others) in
          let d = occurs-below p others (AllByRecursion-append IsThere (cut_paths body) (sent_paths body) (cuts-there body valued.bounds) sent) in
          let e = sum_by-append (only p) (cut_paths body) (sent_paths body) in
          let f = below-once task p in
          omega arith

      pub segment-one_of_a_kind : OneOfAKind (taken task ∷ body)
      segment-one_of_a_kind = record {
        taken_once = λ p.
            let a = sum_by-cons (only p) task (taken_paths body) in
            let c = ap (occurs p) untaken in
            let d = only-once p task in
            omega arith;
        judged_once = λ p. let a = all-once p in let c = judgements-parts p body in omega arith;
        sent_once = λ p. let a = all-once p in omega arith;
        ended_once = ends_once;
      }

  -- of the entries of one task each path is one of the tree, and none has two entries of a kind
  pub record AreKnown (notes : List Note) : Type 0 where
    pub of_tree : AreOfTree t notes
    pub one_of_a_kind : OneOfAKind notes

  pub IsBrokenWalk-known : (gap : ℕ) (keyed : KeyKind) (task : List ℕ) (notes : List Note) → IsBrokenWalk t gap keyed task notes → AreKnown notes
  IsBrokenWalk-known gap keyed task notes w = subst AreKnown (sym w.keeps.cut_up) (known w.keeps.segments w.keeps.each w.of_task)
    where
      known : (segments : List Segment) → AllByRecursion (IsBroken t) segments → (segments ≡ []) ⊎ ((body : List Note) × (segments ≡ segment task body ∷ [])) → AreKnown (entries segments)
      known [] each one = record {
        of_tree = tt;
        one_of_a_kind = record { taken_once = λ p. omega arith; judged_once = λ p. omega arith; sent_once = λ p. omega arith; ended_once = λ p. omega arith };
      }
      known (s ∷ []) each one =
          subst AreKnown (sym (append-nil (entries_in s))) (record { of_tree = each.0.in_tree; one_of_a_kind = each.0.one_of_a_kind })
      known (s ∷ r ∷ segments) each (inl none) = absurd (cc)
      known (s ∷ r ∷ segments) each (inr one) = let e = one.1 in absurd (cc)

-- Where visits and cuts cover what is to come, the first of them is the next to come.
use Rattle.std.proofs.Common.{◌≡◌, ℕ, ◌<◌, List, [], ◌∷◌, Bool, true, false, Option, Some, None, cond, refl, sym, subst, arith, inl, inr}
use Rattle.std.specs.Prelude.{IsTrue, IsSome}
use Rattle.std.specs.List.{AllByRecursion, flat_map}
use Rattle.std.proofs.lemmas.List.Sums.{sum_by-cons, sum_by-append}
use Rattle.yew_laws.specs.Bag.{SameBag}
use Rattle.yew_laws.specs.Order.{comes_before, is_path, only, occurs}
use Rattle.yew_laws.specs.SearchTree.{SearchTree, at_path, below, numbered}
use Rattle.yew_laws.specs.Tree.{IsRanked}
use Rattle.yew_laws.proofs.Bags.{only-itself}
use Rattle.yew_laws.proofs.Below.{AtOrBelow, below-unfolds}
use Rattle.yew_laws.proofs.Members.{AllByRecursion-append, AllByRecursion-weaker}
use Rattle.yew_laws.proofs.PathTests.{is_path-same, is_path-is}
use Rattle.yew_laws.proofs.Weights.{all-weighs}
use Rattle.yew_check.specs.Covering.{Misses}
use Rattle.yew_check.specs.Marks.{Mark, mark_paths, covers, Rises}
use Rattle.yew_check.proofs.Rising.{IsFrom, from-trans, from-both, from-below}
use Rattle.yew_check.proofs.TreeRises.{all-below, at-sound}

-- a record of a node that stands at a path
record Stands {N : Type 0} (t : SearchTree N) (path : List ℕ) : Type 0 where
  node : N
  found : at_path t path ≡ Some node

stands_by : {N : Type 0} (t : SearchTree N) (path : List ℕ) (o : Option N) → at_path t path ≡ o → IsSome o → Stands t path
stands_by t path None e h = absurd (cc)
stands_by t path (Some n) e h = record { node = n; found = e }

stands : {N : Type 0} (t : SearchTree N) (path : List ℕ) → IsSome (at_path t path) → Stands t path
stands t path some = stands_by t path (at_path t path) refl some

module _ {N : Type 0} (t : SearchTree N) {sound : N → Type 0} (ranked : IsRanked sound t.children t.rank) (root : sound t.root) where
  abbrev AreThere : List Mark → Type 0
  AreThere ms = AllByRecursion (λ (m : Mark). IsSome (at_path t m.path)) ms

  covers-from : (m : Mark) → IsSome (at_path t m.path) → AllByRecursion (IsFrom m.path) (covers t m)
  covers-from m some = by m.is_visit refl
    where
      by : (b : Bool) → m.is_visit ≡ b → AllByRecursion (IsFrom m.path) (cond b (m.path ∷ []) (below t m.path))
      by true e = (inl refl, tt)
      by false e =
          let s = stands t m.path some in
          AllByRecursion-weaker (AtOrBelow m.path) (IsFrom m.path) (from-below m.path) (below t m.path) (all-below t ranked m.path s.node s.found (at-sound t ranked root m.path s.node s.found))

  all-from : (a : List ℕ) (ms : List Mark) → AreThere ms → AllByRecursion (IsFrom a) (mark_paths ms) → AllByRecursion (IsFrom a) (flat_map (covers t) ms)
  all-from a [] some from = tt
  all-from a (m ∷ ms) some from =
      AllByRecursion-append (IsFrom a) (covers t m) (flat_map (covers t) ms)
      (AllByRecursion-weaker (IsFrom m.path) (IsFrom a) (λ p f. from-trans a m.path p from.0 f) (covers t m) (covers-from m some.0))
      (all-from a ms some.1 from.1)

  later-from : (a : List ℕ) (ps : List (List ℕ)) → AllByRecursion (λ p. IsTrue (comes_before a p)) ps → AllByRecursion (IsFrom a) ps
  later-from a ps all = AllByRecursion-weaker (λ p. IsTrue (comes_before a p)) (IsFrom a) (λ p f. inr f) ps all

  -- a visit or a cut stands for its own path
  pub covers-own : (m : Mark) → IsSome (at_path t m.path) → 0 < occurs m.path (covers t m)
  covers-own m some = by m.is_visit refl
    where
      own : (ps : List (List ℕ)) → 0 < occurs m.path (m.path ∷ ps)
      own ps = let w = sum_by-cons (only m.path) m.path ps in let i = only-itself m.path in omega arith

      by : (b : Bool) → m.is_visit ≡ b → 0 < occurs m.path (cond b (m.path ∷ []) (below t m.path))
      by true e = own []
      by false e =
          let s = stands t m.path some in
          subst (λ ps. 0 < occurs m.path ps) (sym (below-unfolds t ranked m.path s.node s.found (at-sound t ranked root m.path s.node s.found))) (own (flat_map (below t) (numbered m.path 0 (t.children s.node))))

  first-covered : (m : Mark) (ms : List Mark) → IsSome (at_path t m.path) → 0 < occurs m.path (flat_map (covers t) (m ∷ ms))
  first-covered m ms some = let w = sum_by-append (only m.path) (covers t m) (flat_map (covers t) ms) in let own = covers-own m some in omega arith

  -- a visit or a cut that the walk misses leaves the tree uncovered
  pub missed : (m : Mark) (ms : List Mark) (coming : List (List ℕ)) → AreThere (m ∷ ms) → Rises (mark_paths (m ∷ ms)) → Rises coming → SameBag (flat_map (covers t) (m ∷ ms)) coming → Misses coming m.path → ⊥
  missed m ms [] some rises up bag misses =
      let own = first-covered m ms some.0 in let w = bag.weighs (only m.path) in absurd (omega arith)
  missed m ms (x ∷ xs) some rises up bag misses =
      let own = first-covered m ms some.0 in
      let w = bag.weighs (only m.path) in
      let ahead : IsFrom x m.path = all-weighs is_path is_path-same is_path-is (IsFrom x) (x ∷ xs) m.path (inl refl, later-from x xs up.0) (omega arith) in
      let v = bag.weighs (only x) in
      let i = only-itself x in
      let c = sum_by-cons (only x) x xs in
      let behind : IsFrom m.path x = all-weighs is_path is_path-same is_path-is (IsFrom m.path) (flat_map (covers t) (m ∷ ms)) x (all-from m.path (m ∷ ms) some (inl refl, later-from m.path (mark_paths ms) rises.0)) (omega arith) in
      misses (from-both m.path x behind ahead)

  -- and so does a path that comes where no visit or cut is left
  pub left-over : (x : List ℕ) (xs : List (List ℕ)) → SameBag (flat_map (covers t) []) (x ∷ xs) → ⊥
  left-over x xs bag = let v = bag.weighs (only x) in let i = only-itself x in let c = sum_by-cons (only x) x xs in absurd (omega arith)

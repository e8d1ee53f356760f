-- Logs that cover a tree and whose numbers are right are accepted, and each list of logs is judged in one way.
use Rattle.std.proofs.Common.{◌≡◌, ℕ, ◌+◌, ◌<◌, ◌≤◌, List, [], ◌∷◌, Bool, true, false, Option, Some, None, cond, refl, sym, ap, subst, ◌∙◌, arith}
use Rattle.std.specs.Prelude.{IsSome}
use Rattle.std.specs.Option.{option_map}
use Rattle.std.specs.List.{AllByRecursion, flat_map}
use Rattle.std.proofs.lemmas.List.Sums.{sum_by-cons, sum_by-append}
use Rattle.yew_laws.specs.Cover.{Cover}
use Rattle.yew_laws.specs.Order.{is_path, only, occurs}
use Rattle.yew_laws.specs.SearchTree.{SearchTree, at_path, worth_at, bound_at, below}
use Rattle.yew_laws.specs.Tree.{IsRanked}
use Rattle.yew_laws.proofs.Once.{cover-once}
use Rattle.yew_laws.proofs.PathTests.{is_path-is}
use Rattle.yew_log.specs.Attained.{Attained}
use Rattle.yew_log.specs.Notes.{Note, taken, visited, cut, spawned, handed, ended, Judgement, paths, judgements, visits, cuts, visited_paths, cut_paths}
use Rattle.yew_check.specs.declared.judging.Judged.{Judged}
use Rattle.yew_check.specs.declared.judging.Judged.TheVariants.{Covers, Double, Cover as NoCover, Number}
use Rattle.yew_check.specs.Judging.{Judges}
use Rattle.yew_check.specs.Marks.{Mark}
use Rattle.yew_check.proofs.Least.{covers-own}

some-from_map : {X : Type 0} (f : X → ℕ) (o : Option X) (v : ℕ) → option_map f o ≡ Some v → IsSome o
some-from_map f None v e = absurd (cc)
some-from_map f (Some x) v e = refl

judged-parts : (p : List ℕ) (notes : List Note) → occurs p (paths (judgements notes)) ≡ occurs p (visited_paths notes) + occurs p (cut_paths notes)
judged-parts p [] = omega arith
judged-parts p (taken q ∷ ns) = judged-parts p ns
judged-parts p (spawned q ∷ ns) = judged-parts p ns
judged-parts p (handed q ∷ ns) = judged-parts p ns
judged-parts p (ended q ∷ ns) = judged-parts p ns
judged-parts p (visited q w h ∷ ns) =
    let a = sum_by-cons (only p) q (paths (judgements ns)) in let b = sum_by-cons (only p) q (visited_paths ns) in let c = judged-parts p ns in a ∙ omega arith
judged-parts p (cut q w h ∷ ns) =
    let a = sum_by-cons (only p) q (paths (judgements ns)) in let b = sum_by-cons (only p) q (cut_paths ns) in let c = judged-parts p ns in a ∙ omega arith

module _ {N : Type 0} (t : SearchTree N) where
  abbrev IsThere : List ℕ → Type 0
  IsThere path = IsSome (at_path t path)

  there-judged : (notes : List Note) → AllByRecursion (λ (v : Judgement). worth_at t v.path ≡ Some v.value) (visits notes) → AllByRecursion (λ (c : Judgement). bound_at t c.path ≡ Some c.value) (cuts notes) → AllByRecursion IsThere (paths (judgements notes))
  there-judged [] v c = tt
  there-judged (taken p ∷ ns) v c = there-judged ns v c
  there-judged (visited p w h ∷ ns) v c = (some-from_map t.worth (at_path t p) w v.0, there-judged ns v.1 c)
  there-judged (cut p b h ∷ ns) v c = (some-from_map t.bound (at_path t p) b c.0, there-judged ns v c.1)
  there-judged (spawned p ∷ ns) v c = there-judged ns v c
  there-judged (handed p ∷ ns) v c = there-judged ns v c
  there-judged (ended p ∷ ns) v c = there-judged ns v c

  there-cuts : (js : List Judgement) → AllByRecursion (λ (c : Judgement). bound_at t c.path ≡ Some c.value) js → AllByRecursion IsThere (paths js)
  there-cuts [] a = tt
  there-cuts (j ∷ js) a = (some-from_map t.bound (at_path t j.path) j.value a.0, there-cuts js a.1)

  module _ {sound : N → Type 0} (ranked : IsRanked sound t.children t.rank) (root : sound t.root) where
    -- what is cut lies below the cuts
    cuts-below : (p : List ℕ) (ps : List (List ℕ)) → AllByRecursion IsThere ps → occurs p ps ≤ occurs p (flat_map (below t) ps)
    cuts-below p [] a = omega arith
    cuts-below p (q ∷ ps) a = go (is_path p q) refl (cuts-below p ps a.1)
      where
        go : (b : Bool) → is_path p q ≡ b → occurs p ps ≤ occurs p (flat_map (below t) ps) → occurs p (q ∷ ps) ≤ occurs p (flat_map (below t) (q ∷ ps))
        go false e rest =
            let w = sum_by-cons (only p) q ps in
            let o : ◌≡◌ {A = ℕ} (only p q) 0 = ap (λ b. cond b 1 0) e in
            let s = sum_by-append (only p) (below t q) (flat_map (below t) ps) in
            omega arith
        go true e rest =
            let same : p ≡ q = is_path-is p q e in
            let m : Mark = record { path = q; is_visit = false; value = 0; held = 0 } in
            let own : 0 < occurs p (below t q) = subst (λ r. 0 < occurs r (below t q)) (sym same) (covers-own t ranked root m a.0) in
            let w = sum_by-cons (only p) q ps in
            let o : ◌≡◌ {A = ℕ} (only p q) 1 = ap (λ b. cond b 1 0) e in
            let s = sum_by-append (only p) (below t q) (flat_map (below t) ps) in
            omega arith

    pub accepts : (gap : ℕ) (notes : List Note) → Cover t (visited_paths notes) (cut_paths notes) → Attained t gap (visits notes) (cuts notes) → Judges t gap notes Covers
    accepts gap notes cover attained = (
      (λ double.
          let once = cover-once t ranked root (visited_paths notes) (cut_paths notes) cover double.0 in
          let parts = judged-parts double.0 notes in
          let below_cuts = cuts-below double.0 (cut_paths notes) (there-cuts (cuts notes) attained.bounds) in
          let h = double.1 in
          absurd (omega arith)),
      record { in_tree = there-judged notes attained.worths attained.bounds; cover = cover },
      attained,
    )

  pub one-judgement : (gap : ℕ) (notes : List Note) (a b : Judged) → Judges t gap notes a → Judges t gap notes b → a ≡ b
  one-judgement gap notes Double Double h k = refl
  one-judgement gap notes Double NoCover h k = absurd (k.0 h)
  one-judgement gap notes Double Number h k = absurd (k.0 h)
  one-judgement gap notes Double Covers h k = absurd (k.0 h)
  one-judgement gap notes NoCover Double h k = absurd (h.0 k)
  one-judgement gap notes NoCover NoCover h k = refl
  one-judgement gap notes NoCover Number h k = absurd (h.1 k.1)
  one-judgement gap notes NoCover Covers h k = absurd (h.1 k.1)
  one-judgement gap notes Number Double h k = absurd (h.0 k)
  one-judgement gap notes Number NoCover h k = absurd (k.1 h.1)
  one-judgement gap notes Number Number h k = refl
  one-judgement gap notes Number Covers h k = absurd (h.2 k.2)
  one-judgement gap notes Covers Double h k = absurd (h.0 k)
  one-judgement gap notes Covers NoCover h k = absurd (k.1 h.1)
  one-judgement gap notes Covers Number h k = absurd (k.2 h.2)
  one-judgement gap notes Covers Covers h k = refl

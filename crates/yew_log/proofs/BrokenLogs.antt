-- A whole segment is one that was not broken off, and whole segments with one more are a log that broke off.
use Rattle.std.proofs.Common.{◌≡◌, ℕ, zero, suc, ◌<◌, ◌≤◌, List, [], ◌∷◌, ◌++◌, length, Bool, true, false, cond, inr, refl, ap, sym, subst, append-nil, append_assoc, arith, Contains}
use Rattle.std.specs.Prelude.{IsSome}
use Rattle.std.specs.List.{AllByRecursion}
use Rattle.std.proofs.lemmas.List.Sums.{sum_by-append, sum_by-cons}
use Rattle.yew_laws.specs.Order.{is_path, only, occurs}
use Rattle.yew_laws.specs.SearchTree.{SearchTree, at_path}
use Rattle.yew_laws.specs.Tree.{IsRanked}
use Rattle.yew_laws.proofs.Bags.{same-part}
use Rattle.yew_laws.proofs.PathTests.{is_path-same, is_path-is}
use Rattle.yew_laws.proofs.Weights.{contains-has_weight}
use Rattle.yew_log.specs.HeldValues.{KeyKind, HeldRises, IsJudged}
use Rattle.yew_log.specs.Lawful.{IsBrokenLog}
use Rattle.yew_log.specs.Notes.{Note, taken, visited, cut, spawned, handed, ended, ended_in, visited_paths, sent_paths, ended_paths}
use Rattle.yew_log.specs.Places.{AtEach}
use Rattle.yew_log.specs.Segment.{Segment, entries, Begins, Nests, EndsVisits, IsOnce, IsSegment, IsBroken}
use Rattle.yew_log.proofs.EntryPlaces.{around, front-unended}
use Rattle.yew_log.proofs.Ends.{enclosed-ends}
use Rattle.yew_log.proofs.Growth.{visited-append}
use Rattle.yew_log.proofs.KnownPaths.{segment-of_tree, segment-one_of_a_kind}

-- a path that ends was visited
ends-visited : (q : List ℕ) (before notes : List Note) → AtEach (λ b note after. AllByRecursion (λ p. Contains (visited_paths b) p) (ended_in note)) before notes → 0 < occurs q (ended_paths notes) → 0 < occurs q (visited_paths (before ++ notes))
ends-visited q before [] each more = absurd (omega arith)
ends-visited q before (taken p ∷ ns) each more = subst (λ ms. 0 < occurs q (visited_paths ms)) (append_assoc before (taken p ∷ []) ns) (ends-visited q (before ++ taken p ∷ []) ns each.1 more)
ends-visited q before (visited p w h ∷ ns) each more = subst (λ ms. 0 < occurs q (visited_paths ms)) (append_assoc before (visited p w h ∷ []) ns) (ends-visited q (before ++ visited p w h ∷ []) ns each.1 more)
ends-visited q before (cut p b h ∷ ns) each more = subst (λ ms. 0 < occurs q (visited_paths ms)) (append_assoc before (cut p b h ∷ []) ns) (ends-visited q (before ++ cut p b h ∷ []) ns each.1 more)
ends-visited q before (spawned p ∷ ns) each more = subst (λ ms. 0 < occurs q (visited_paths ms)) (append_assoc before (spawned p ∷ []) ns) (ends-visited q (before ++ spawned p ∷ []) ns each.1 more)
ends-visited q before (handed p ∷ ns) each more = subst (λ ms. 0 < occurs q (visited_paths ms)) (append_assoc before (handed p ∷ []) ns) (ends-visited q (before ++ handed p ∷ []) ns each.1 more)
ends-visited q before (ended p ∷ ns) each more = by (is_path q p) refl (λ m. ends-visited q (before ++ ended p ∷ []) ns each.1 m)
  where
    by : (b : Bool) → is_path q p ≡ b → (0 < occurs q (ended_paths ns) → 0 < occurs q (visited_paths ((before ++ ended p ∷ []) ++ ns))) → 0 < occurs q (visited_paths (before ++ ended p ∷ ns))
    by true e rest =
        let here = contains-has_weight is_path is_path-same is_path-is (visited_paths before) q (subst (Contains (visited_paths before)) (sym (is_path-is q p e)) each.0.0) in
        let a = ap (occurs q) (visited-append before (ended p ∷ ns)) in
        let c = sum_by-append (only q) (visited_paths before) (visited_paths (ended p ∷ ns)) in
        omega (arith, here, a, c)
    by false e rest =
        let o : ◌≡◌ {A = ℕ} (only q p) 0 = ap (λ b. cond b 1 0) e in
        let a = sum_by-cons (only q) p (ended_paths ns) in
        subst (λ ms. 0 < occurs q (visited_paths ms)) (append_assoc before (ended p ∷ []) ns) (rest (omega (arith, o, a, more)))

-- where each visit has its end, no path ends twice
ends-once : (body : List Note) → Nests body → EndsVisits body → IsOnce (ended_paths body)
ends-once body nests ends q = by (occurs q (ended_paths body)) refl
  where
    by : (n : ℕ) → occurs q (ended_paths body) ≡ n → occurs q (ended_paths body) ≤ 1
    by zero e = omega (arith, e)
    by (suc n) e =
        let seen = ends-visited q [] body ends (omega (arith, e)) in
        let a = around q body [] (subst Nests (sym (append-nil body)) nests) seen in
        let f = front-unended q a.front (a.back ++ []) a.encloses in
        let g = enclosed-ends q a.front (a.back ++ []) a.encloses in
        let h = ap (λ ns. occurs q (ended_paths ns)) (append-nil a.back) in
        let k = a.ends_are in
        omega (arith, f, g, h, k)

begun : (task : List ℕ) (body : List Note) → Begins task body → body ≡ [] → ⊥
begun task [] b e = b
begun task (note ∷ notes) b e = absurd (cc)

module _ {N : Type 0} (t : SearchTree N) where
  last-alone : (before whole last : List Segment) → AllByRecursion (IsSegment t) whole → length last ≤ 1 → AtEach (λ b s a. s.body ≡ [] → a ≡ []) before (whole ++ last)
  last-alone before [] [] each one = tt
  last-alone before [] (s ∷ []) each one = ((λ e. refl), tt)
  last-alone before [] (s ∷ r ∷ more) each one = absurd (omega (arith, one))
  last-alone before (s ∷ whole) last each one = ((λ e. absurd (begun s.task s.body each.0.begins e)), last-alone (before ++ s ∷ []) whole last each.1 one)

  -- whole segments, and perhaps one more that was broken off
  pub broken_log-from_segments : (gap : ℕ) (keyed : KeyKind) (whole last : List Segment) → AllByRecursion (IsSegment t) whole → AllByRecursion (IsBroken t) (whole ++ last) → length last ≤ 1 → HeldRises (entries (whole ++ last)) → IsJudged t gap keyed (entries (whole ++ last)) → IsBrokenLog t gap keyed (entries (whole ++ last))
  broken_log-from_segments gap keyed whole last each broken one rises judged = record {
    segments = whole ++ last;
    cut_up = refl;
    each = broken;
    only_last = last-alone [] whole last each one;
    held_rises = rises;
    due = judged;
  }

  module _ {sound : N → Type 0} (ranked : IsRanked sound t.children t.rank) (root : sound t.root) where
    -- a whole segment, of which all that is sent is of the tree
    pub segment-broken : (s : Segment) → IsSegment t s → IsSome (at_path t s.task) → AllByRecursion (λ path. IsSome (at_path t path)) (sent_paths s.body) → IsBroken t s
    segment-broken s is there sent =
        let once = ends-once s.body is.nests is.ends in
        record {
          untaken = is.untaken;
          begins = inr is.begins;
          rises = is.rises;
          parents = is.parents;
          ends = is.ends;
          in_tree = segment-of_tree t ranked root s.task s.body there sent is.untaken is.ends once is.valued (same-part is.all_covered);
          one_of_a_kind = segment-one_of_a_kind t ranked root s.task s.body there sent is.untaken is.ends once is.valued (same-part is.all_covered);
          part_covered = same-part is.all_covered;
          valued = is.valued;
        }

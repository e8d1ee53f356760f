-- A segment that was walked to its end is one that may have been broken off.
use Rattle.std.proofs.Common.{◌≡◌, ℕ, zero, suc, ◌≤◌, ◌∙◌, List, [], ◌∷◌, ◌++◌, inr, refl, sym, ap, subst, append_assoc, arith}
use Rattle.std.specs.Prelude.{IsSome}
use Rattle.std.specs.List.{AllByRecursion, Contains}
use Rattle.std.proofs.lemmas.List.Concat.{flat_map-append}
use Rattle.std.proofs.lemmas.List.Elements.{All-contains, All-from_recursion}
use Rattle.std.proofs.lemmas.List.Sums.{sum_by-append, sum_by-cons}
use Rattle.yew_laws.specs.Order.{is_path, only, occurs}
use Rattle.yew_laws.specs.Bag.{SameBag}
use Rattle.yew_laws.specs.declared.problem.Problem.{Ghosts}
use Rattle.yew_laws.specs.declared.problem.Task.{Task}
use Rattle.yew_laws.specs.SearchTree.{SearchTree, at_path, search_tree, IsTask}
use Rattle.yew_stack.specs.Splits.{paths_of}
use Rattle.yew_laws.specs.Tree.{IsRanked}
use Rattle.yew_laws.proofs.Bags.{same-part, same-sym, only-itself, none-weighs}
use Rattle.yew_laws.proofs.Members.{AllByRecursion-map, AllByRecursion-weaker}
use Rattle.yew_laws.proofs.PathTests.{is_path-same, is_path-is}
use Rattle.yew_laws.proofs.Weights.{all-weighs, part-all}
use Rattle.yew_log.specs.Notes.{Note, taken, visited, cut, spawned, handed, ended, Judgement, visit_in, visited_paths, sent_paths, ended_in, ended_paths}
use Rattle.yew_log.specs.Places.{AtEach}
use Rattle.yew_log.specs.Segment.{Segment, IsEnclosed, Nests, EndsVisits, IsOnce, IsSegment, IsBroken}
use Rattle.yew_log.proofs.KnownPaths.{segment-of_tree, segment-one_of_a_kind}

-- the path of an enclosed visit is ended once
enclosed-once : (path : List ℕ) (before : List Note) (worth held : ℕ) (after : List Note) → IsEnclosed path before after → occurs path (ended_paths (before ++ visited path worth held ∷ after)) ≡ 1
enclosed-once path before worth held after e =
    let a = ap (λ l. occurs path l) (flat_map-append ended_in before (visited path worth held ∷ after)) in
    let b = sum_by-append (only path) (ended_paths before) (ended_paths after) in
    let c = ap (λ l. occurs path (ended_paths l)) e.is_ended in
    let d = ap (λ l. occurs path l) (flat_map-append ended_in e.inside (ended path ∷ e.outside)) in
    let f = sum_by-append (only path) (ended_paths e.inside) (path ∷ ended_paths e.outside) in
    let g = sum_by-cons (only path) path (ended_paths e.outside) in
    let h = only-itself path in
    let i = none-weighs path (ended_paths (before ++ e.inside ++ e.outside)) e.one_end in
    let j = ap (λ l. occurs path l) (flat_map-append ended_in (before ++ e.inside) e.outside) in
    let k = ap (λ l. occurs path l) (flat_map-append ended_in before e.inside) in
    let l = sum_by-append (only path) (ended_paths (before ++ e.inside)) (ended_paths e.outside) in
    let m = sum_by-append (only path) (ended_paths before) (ended_paths e.inside) in
    omega arith

visits-once : (before rest : List Note) → AtEach (λ b note a. AllByRecursion (λ (v : Judgement). IsEnclosed v.path b a) (visit_in note)) before rest → AllByRecursion (λ p. occurs p (ended_paths (before ++ rest)) ≡ 1) (visited_paths rest)
visits-once before [] n = tt
visits-once before (visited p w h ∷ ns) n = (
  enclosed-once p before w h ns n.0.0,
  subst (λ l. AllByRecursion (λ p'. occurs p' (ended_paths l) ≡ 1) (visited_paths ns)) (append_assoc before (visited p w h ∷ []) ns) (visits-once (before ++ visited p w h ∷ []) ns n.1),
)
visits-once before (taken p ∷ ns) n = subst (λ l. AllByRecursion (λ p'. occurs p' (ended_paths l) ≡ 1) (visited_paths ns)) (append_assoc before (taken p ∷ []) ns) (visits-once (before ++ taken p ∷ []) ns n.1)
visits-once before (cut p b h ∷ ns) n = subst (λ l. AllByRecursion (λ p'. occurs p' (ended_paths l) ≡ 1) (visited_paths ns)) (append_assoc before (cut p b h ∷ []) ns) (visits-once (before ++ cut p b h ∷ []) ns n.1)
visits-once before (spawned p ∷ ns) n = subst (λ l. AllByRecursion (λ p'. occurs p' (ended_paths l) ≡ 1) (visited_paths ns)) (append_assoc before (spawned p ∷ []) ns) (visits-once (before ++ spawned p ∷ []) ns n.1)
visits-once before (handed p ∷ ns) n = subst (λ l. AllByRecursion (λ p'. occurs p' (ended_paths l) ≡ 1) (visited_paths ns)) (append_assoc before (handed p ∷ []) ns) (visits-once (before ++ handed p ∷ []) ns n.1)
visits-once before (ended p ∷ ns) n = subst (λ l. AllByRecursion (λ p'. occurs p' (ended_paths l) ≡ 1) (visited_paths ns)) (append_assoc before (ended p ∷ []) ns) (visits-once (before ++ ended p ∷ []) ns n.1)

-- an ended path was visited
ended-visited : (P : List ℕ → Type 0) (before rest : List Note) → AtEach (λ b note a. AllByRecursion (λ p. Contains (visited_paths b) p) (ended_in note)) before rest
    → ((b : List Note) (a : List Note) (p : List ℕ) → before ++ rest ≡ b ++ a → Contains (visited_paths b) p → P p) → AllByRecursion P (ended_paths rest)
ended-visited P before [] e from = tt
ended-visited P before (ended p ∷ ns) e from = (from before (ended p ∷ ns) p refl e.0.0, ended-visited P (before ++ ended p ∷ []) ns e.1 (λ b a q is. from b a q (sym (append_assoc before (ended p ∷ []) ns) ∙ is)))
ended-visited P before (taken p ∷ ns) e from = ended-visited P (before ++ taken p ∷ []) ns e.1 (λ b a q is. from b a q (sym (append_assoc before (taken p ∷ []) ns) ∙ is))
ended-visited P before (visited p w h ∷ ns) e from = ended-visited P (before ++ visited p w h ∷ []) ns e.1 (λ b a q is. from b a q (sym (append_assoc before (visited p w h ∷ []) ns) ∙ is))
ended-visited P before (cut p c h ∷ ns) e from = ended-visited P (before ++ cut p c h ∷ []) ns e.1 (λ b a q is. from b a q (sym (append_assoc before (cut p c h ∷ []) ns) ∙ is))
ended-visited P before (spawned p ∷ ns) e from = ended-visited P (before ++ spawned p ∷ []) ns e.1 (λ b a q is. from b a q (sym (append_assoc before (spawned p ∷ []) ns) ∙ is))
ended-visited P before (handed p ∷ ns) e from = ended-visited P (before ++ handed p ∷ []) ns e.1 (λ b a q is. from b a q (sym (append_assoc before (handed p ∷ []) ns) ∙ is))

visits-front : (b a : List Note) (P : List ℕ → Type 0) → AllByRecursion P (visited_paths (b ++ a)) → AllByRecursion P (visited_paths b)
visits-front [] a P x = tt
visits-front (visited p w h ∷ ns) a P x = (x.0, visits-front ns a P x.1)
visits-front (taken p ∷ ns) a P x = visits-front ns a P x
visits-front (cut p c h ∷ ns) a P x = visits-front ns a P x
visits-front (spawned p ∷ ns) a P x = visits-front ns a P x
visits-front (handed p ∷ ns) a P x = visits-front ns a P x
visits-front (ended p ∷ ns) a P x = visits-front ns a P x

-- no path is ended twice
pub nests-ends_once : (body : List Note) → Nests body → EndsVisits body → IsOnce (ended_paths body)
nests-ends_once body n e = λ path. by path (occurs path (ended_paths body)) refl
  where
    each : AllByRecursion (λ p. occurs p (ended_paths body) ≡ 1) (ended_paths body)
    each = ended-visited (λ p. occurs p (ended_paths body) ≡ 1) [] body e (λ b a p is c.
        All-contains (λ q. occurs q (ended_paths body) ≡ 1) (visited_paths b) p (All-from_recursion (λ q. occurs q (ended_paths body) ≡ 1) (visited_paths b)
        (visits-front b a (λ q. occurs q (ended_paths body) ≡ 1) (subst (λ l. AllByRecursion (λ q. occurs q (ended_paths body) ≡ 1) (visited_paths l)) is (visits-once [] body n)))) c)

    by : (path : List ℕ) (k : ℕ) → occurs path (ended_paths body) ≡ k → occurs path (ended_paths body) ≤ 1
    by path zero is = omega arith
    by path (suc k) is = let one = all-weighs is_path is_path-same is_path-is (λ p. occurs p (ended_paths body) ≡ 1) (ended_paths body) path each (omega arith) in omega arith

module _ {N : Type 0} (t : SearchTree N) {sound : N → Type 0} (ranked : IsRanked sound t.children t.rank) (root : sound t.root) where
  pub segment-broken : (x : Segment) → IsSegment t x → IsSome (at_path t x.task) → AllByRecursion (λ p. IsSome (at_path t p)) (sent_paths x.body) → IsBroken t x
  segment-broken x is there sent =
      let part = same-part is.all_covered in
      let once = nests-ends_once x.body is.nests is.ends in
      record {
        untaken = is.untaken;
        begins = inr is.begins;
        rises = is.rises;
        parents = is.parents;
        ends = is.ends;
        in_tree = segment-of_tree t ranked root x.task x.body there sent is.untaken is.ends once is.valued part;
        one_of_a_kind = segment-one_of_a_kind t ranked root x.task x.body there sent is.untaken is.ends once is.valued part;
        part_covered = part;
        valued = is.valued;
      }

  -- what is sent as tasks is of the tree
  pub sent-there : {S K : Type 0} (meaning : Ghosts S N K) (problem : S) → search_tree meaning problem ≡ t → (tasks : List (Task N)) (ps : List (List ℕ)) → AllByRecursion (λ task. IsTask meaning problem task.path.numbers task.node) tasks → SameBag (paths_of tasks) ps → AllByRecursion (λ p. IsSome (at_path t p)) ps
  sent-there meaning problem is tasks ps sound_tasks same =
      part-all is_path is_path-same is_path-is (λ p. IsSome (at_path t p)) (same-part (same-sym same))
      (AllByRecursion-map (λ p. IsSome (at_path t p)) (λ (task : Task _). task.path.numbers) tasks
      (AllByRecursion-weaker (λ task. IsTask meaning problem task.path.numbers task.node) (λ task. IsSome (at_path t task.path.numbers)) (λ task k. subst (λ (tree : SearchTree N). IsSome (at_path tree task.path.numbers)) is (subst IsSome (sym k.found) refl)) tasks sound_tasks))

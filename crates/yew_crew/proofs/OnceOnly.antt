-- In the log of a worker no path is taken, judged, sent or ended twice, also where workers did not come to their ends: what all took is the root's task and what all sent.
use Rattle.std.proofs.Common.{◌≡◌, ℕ, zero, suc, ◌+◌, ◌-◌, ◌<◌, ◌≤◌, Option, Some, None, List, [], ◌∷◌, ◌++◌, ◌∙◌, refl, sym, ap, subst, arith, append_assoc, ⊎_elim}
use Rattle.std.specs.Prelude.{IsSome}
use Rattle.std.specs.List.{AllByRecursion, Contains, flat_map, sum_by}
use Rattle.std.proofs.lemmas.List.{map-append}
use Rattle.std.proofs.lemmas.List.Sums.{sum_by-append, sum_by-cons}
use Rattle.std.proofs.lemmas.List.Concat.{flat_map-append}
use Rattle.yew_laws.specs.Bag.{PartOfBag}
use Rattle.yew_laws.specs.Order.{only, occurs, is_path}
use Rattle.yew_laws.specs.SearchTree.{SearchTree, at_path, below, numbered}
use Rattle.yew_laws.specs.Tree.{IsRanked, IsBounded}
use Rattle.yew_laws.proofs.Bags.{sum_by-flat_map, only-itself}
use Rattle.yew_laws.proofs.Below.{below-unfolds}
use Rattle.yew_laws.proofs.Once.{tree-once}
use Rattle.yew_laws.proofs.PathTests.{is_path-same, is_path-is}
use Rattle.yew_laws.proofs.Weights.{all-weighs, contains-has_weight}
use Rattle.yew_log.specs.Notes.{Note, Judgement, taken, visited, cut, spawned, handed, ended, path_of, judgements, paths, visits, cuts, taken_paths, visited_paths, cut_paths, sent_paths, ended_paths, taken_in, sent_in, ended_in, visit_in, judgement_in}
use Rattle.yew_log.specs.Places.{AtEach}
use Rattle.yew_log.specs.Segment.{Segment, entries, entries_in, IsBroken, Begins, OneOfAKind}
use Rattle.yew_crew.proofs.CrewClosed.{cut-there, cut-below, own-below}
use Rattle.yew_walk.proofs.NearBest.{at_path-sound}

-- what a worker noted, and the paths of the tasks that it took and sent
pub record Doing : Type 0 where
  pub notes : List Note
  pub took : List (List ℕ)
  pub sent : List (List ℕ)

abbrev pub all_took : List Doing → List (List ℕ)
all_took ds = flat_map (λ (d : Doing). d.took) ds

abbrev pub all_sent : List Doing → List (List ℕ)
all_sent ds = flat_map (λ (d : Doing). d.sent) ds

-- visits and cuts together are all judgements
judged-parts : (path : List ℕ) (notes : List Note) → occurs path (paths (judgements notes)) ≡ occurs path (visited_paths notes) + occurs path (cut_paths notes)
judged-parts path [] = refl
judged-parts path (taken q ∷ ns) = judged-parts path ns
judged-parts path (spawned q ∷ ns) = judged-parts path ns
judged-parts path (handed q ∷ ns) = judged-parts path ns
judged-parts path (ended q ∷ ns) = judged-parts path ns
judged-parts path (visited q w h ∷ ns) =
    let a = sum_by-cons (only path) q (paths (judgements ns)) in let b = sum_by-cons (only path) q (visited_paths ns) in let c = judged-parts path ns in omega arith
judged-parts path (cut q w h ∷ ns) =
    let a = sum_by-cons (only path) q (paths (judgements ns)) in let b = sum_by-cons (only path) q (cut_paths ns) in let c = judged-parts path ns in omega arith

-- an ended path was visited
ended-visited : (path : List ℕ) (before notes : List Note)
    → AtEach (λ b n a. AllByRecursion (λ p. Contains (visited_paths b) p) (ended_in n)) before notes → 0 < occurs path (ended_paths notes)
    → 0 < occurs path (visited_paths (before ++ notes))
ended-visited path before [] at more = absurd (omega arith)
ended-visited path before (n ∷ ns) at more = by (occurs path (ended_in n)) refl (λ h. ended-visited path (before ++ n ∷ []) ns at.1 h)
  where
    by : (k : ℕ) → occurs path (ended_in n) ≡ k → (0 < occurs path (ended_paths ns) → 0 < occurs path (visited_paths ((before ++ n ∷ []) ++ ns)))
        → 0 < occurs path (visited_paths (before ++ n ∷ ns))
    by zero e rec =
        let parts = sum_by-append (only path) (ended_in n) (ended_paths ns) in
        let later = rec (omega arith) in
        subst (λ ms. 0 < occurs path (visited_paths ms)) (append_assoc before (n ∷ []) ns) later
    by (suc k) e rec =
        let there = all-weighs is_path is_path-same is_path-is (Contains (visited_paths before)) (ended_in n) path at.0 (omega arith) in
        let w = contains-has_weight is_path is_path-same is_path-is (visited_paths before) path there in
        let f = ap (λ vs. occurs path (paths vs)) (flat_map-append visit_in before (n ∷ ns)) in
        let g = ap (occurs path) (map-append (λ (j : Judgement). j.path) (visits before) (visits (n ∷ ns))) in
        let h = sum_by-append (only path) (visited_paths before) (visited_paths (n ∷ ns)) in omega arith

-- a worker's entries are segments of tasks that it took, and what it sent was noted
pub record IsDoing {N : Type 0} (t : SearchTree N) (d : Doing) : Type 0 where
  pub segments : List Segment
  pub cut_up : d.notes ≡ entries segments
  pub each : AllByRecursion (IsBroken t) segments
  pub taken_are : PartOfBag (taken_paths d.notes) d.took
  pub sent_are : PartOfBag d.sent (sent_paths d.notes)

module _ {N : Type 0} (t : SearchTree N) {sound : N → Type 0} (ranked : IsRanked sound t.children t.rank) (bounded : IsBounded sound t.children t.worth t.bound) (root_sound : sound t.root) where
  -- how often a path lies at or below a task
  abbrev reach : List ℕ → List ℕ → ℕ
  reach path q = occurs path (below t q)

  -- and how often below it
  abbrev strict : List ℕ → List ℕ → ℕ
  strict path q = occurs path (below t q) - only path q

  -- a path of the tree lies at itself
  there-itself : (q : List ℕ) → IsSome (at_path t q) → 0 < occurs q (below t q)
  there-itself q some = by (at_path t q) refl some
    where
      by : (found : Option N) → at_path t q ≡ found → IsSome found → 0 < occurs q (below t q)
      by None e s = absurd (cc)
      by (Some n) e s =
          let u = below-unfolds t ranked q n e (at_path-sound t ranked bounded root_sound q n e) in
          let k = ap (occurs q) u in
          let l = sum_by-cons (only q) q (flat_map (below t) (numbered q 0 (t.children n))) in
          let o = only-itself q in omega arith

  -- what a segment says of a path: how often its visits and cuts, or else its task, hold it
  pub record IsHeld (path : List ℕ) (s : Segment) (held : ℕ) : Type 0 where
    pub within : held + sum_by (reach path) (sent_paths s.body) ≤ reach path s.task
    pub of_task : only path s.task ≤ held
    pub of_judged : occurs path (paths (judgements s.body)) ≤ held
    pub of_ended : occurs path (ended_paths s.body) ≤ held
    pub sent_is : sum_by (reach path) (sent_paths s.body) ≡ sum_by (strict path) (sent_paths s.body) + occurs path (sent_paths s.body)

  -- each sent path lies at itself
  sent-strict : (path : List ℕ) (notes : List Note) → AllByRecursion (λ note. IsSome (at_path t (path_of note))) notes
      → sum_by (reach path) (sent_paths notes) ≡ sum_by (strict path) (sent_paths notes) + occurs path (sent_paths notes)
  sent-strict path [] a = refl
  sent-strict path (taken q ∷ ns) a = sent-strict path ns a.1
  sent-strict path (visited q w h ∷ ns) a = sent-strict path ns a.1
  sent-strict path (cut q b h ∷ ns) a = sent-strict path ns a.1
  sent-strict path (ended q ∷ ns) a = sent-strict path ns a.1
  sent-strict path (spawned q ∷ ns) a =
      let r = sent-strict path ns a.1 in let o = own-below t ranked bounded root_sound path q (there-itself q a.0) in
      let x = sum_by-cons (reach path) q (sent_paths ns) in let y = sum_by-cons (strict path) q (sent_paths ns) in let z = sum_by-cons (only path) q (sent_paths ns) in omega arith
  sent-strict path (handed q ∷ ns) a =
      let r = sent-strict path ns a.1 in let o = own-below t ranked bounded root_sound path q (there-itself q a.0) in
      let x = sum_by-cons (reach path) q (sent_paths ns) in let y = sum_by-cons (strict path) q (sent_paths ns) in let z = sum_by-cons (only path) q (sent_paths ns) in omega arith

  segment-held : (path : List ℕ) (s : Segment) → IsBroken t s → (held : ℕ) × IsHeld path s held
  segment-held path s is = ⊎_elim
      (λ (none : s.body ≡ []).
      let own = own-below t ranked bounded root_sound path s.task (there-itself s.task is.in_tree.0) in
      let sent_none = ap (λ ns. sum_by (reach path) (sent_paths ns)) none in
      let judged_none = ap (λ ns. occurs path (paths (judgements ns))) none in
      let ended_none = ap (λ ns. occurs path (ended_paths ns)) none in
      (reach path s.task, record { within = omega arith; of_task = own; of_judged = omega arith; of_ended = omega arith; sent_is = sent-strict path s.body is.in_tree.1 }))
      (λ (begins : Begins s.task s.body).
      let vs = visited_paths s.body in let cs = cut_paths s.body in let ss = sent_paths s.body in
      let held = occurs path vs + occurs path (flat_map (below t) cs) in
      let part = is.part_covered.weighs (only path) in
      let a = sum_by-append (only path) vs (flat_map (below t) (cs ++ ss)) in
      let b = ap (occurs path) (flat_map-append (below t) cs ss) in
      let c = sum_by-append (only path) (flat_map (below t) cs) (flat_map (below t) ss) in
      let d = sum_by-flat_map (only path) (below t) ss in
      let low = cut-below t ranked bounded root_sound cs path (cut-there t ranked bounded root_sound (cuts s.body) is.valued.bounds) in
      let j = judged-parts path s.body in (
        held,
        record {
          within = omega arith;
          of_task = begun s.body begins (cut-there t ranked bounded root_sound (cuts s.body) is.valued.bounds);
          of_judged = omega arith;
          of_ended = ended-low;
          sent_is = sent-strict path s.body is.in_tree.1;
        },
      ))
      is.begins
    where
      begun : (body : List Note) → Begins s.task body → AllByRecursion (λ c. 0 < occurs c (below t c)) (cut_paths body)
          → only path s.task ≤ occurs path (visited_paths body) + occurs path (flat_map (below t) (cut_paths body))
      begun [] b a = absurd b
      begun (taken q ∷ ns) b a = absurd b
      begun (spawned q ∷ ns) b a = absurd b
      begun (handed q ∷ ns) b a = absurd b
      begun (ended q ∷ ns) b a = absurd b
      begun (visited q w h ∷ ns) b a = let x = sum_by-cons (only path) q (visited_paths ns) in let e = ap (only path) b in omega arith
      begun (cut q w h ∷ ns) b a =
          let x = sum_by-append (only path) (below t q) (flat_map (below t) (cut_paths ns)) in
          let o = own-below t ranked bounded root_sound path q a.0 in let e = ap (only path) b in omega arith

      ended-low : occurs path (ended_paths s.body) ≤ occurs path (visited_paths s.body) + occurs path (flat_map (below t) (cut_paths s.body))
      ended-low = by (occurs path (ended_paths s.body)) refl
        where
          by : (k : ℕ) → occurs path (ended_paths s.body) ≡ k
              → occurs path (ended_paths s.body) ≤ occurs path (visited_paths s.body) + occurs path (flat_map (below t) (cut_paths s.body))
          by zero e = omega arith
          by (suc k) e = let once = is.one_of_a_kind.ended_once path in let v = ended-visited path [] s.body is.ends (omega arith) in omega arith

  -- what is read of the entries of a segment and of those after it
  parts : (h : List ℕ → ℕ) (f : Note → List (List ℕ)) (s : Segment) (ss : List Segment)
      → sum_by h (flat_map f (entries (s ∷ ss))) ≡ sum_by h (flat_map f (entries_in s)) + sum_by h (flat_map f (entries ss))
  parts h f s ss = ap (sum_by h) (flat_map-append f (entries_in s) (entries ss)) ∙ sum_by-append h (flat_map f (entries_in s)) (flat_map f (entries ss))

  judged-split : (path : List ℕ) (s : Segment) (ss : List Segment)
      → occurs path (paths (judgements (entries (s ∷ ss)))) ≡ occurs path (paths (judgements s.body)) + occurs path (paths (judgements (entries ss)))
  judged-split path s ss =
      ap (λ js. occurs path (paths js)) (flat_map-append judgement_in (entries_in s) (entries ss))
      ∙ (ap (occurs path) (map-append (λ (j : Judgement). j.path) (judgements s.body) (judgements (entries ss))) ∙ sum_by-append (only path) (paths (judgements s.body)) (paths (judgements (entries ss))))

  -- the same of all segments of a log
  pub record IsLogHeld (path : List ℕ) (notes : List Note) (held : ℕ) : Type 0 where
    pub within : held + sum_by (reach path) (sent_paths notes) ≤ sum_by (reach path) (taken_paths notes)
    pub strict_within : sum_by (reach path) (sent_paths notes) ≤ sum_by (strict path) (taken_paths notes)
    pub of_taken : occurs path (taken_paths notes) ≤ held
    pub of_judged : occurs path (paths (judgements notes)) ≤ held
    pub of_ended : occurs path (ended_paths notes) ≤ held
    pub sent_is : sum_by (reach path) (sent_paths notes) ≡ sum_by (strict path) (sent_paths notes) + occurs path (sent_paths notes)

  log-held : (path : List ℕ) (segments : List Segment) → AllByRecursion (IsBroken t) segments → (held : ℕ) × IsLogHeld path (entries segments) held
  log-held path [] each = (0, record { within = omega arith; strict_within = omega arith; of_taken = omega arith; of_judged = omega arith; of_ended = omega arith; sent_is = refl })
  log-held path (s ∷ ss) each =
      let here = segment-held path s each.0 in
      let later = log-held path ss each.1 in
      let h = here.1 in let l = later.1 in
      let h_within = h.within in let h_task = h.of_task in let h_judged = h.of_judged in let h_ended = h.of_ended in let h_sent = h.sent_is in
      let l_within = l.within in let l_strict = l.strict_within in let l_taken = l.of_taken in let l_judged = l.of_judged in let l_ended = l.of_ended in let l_sent = l.sent_is in
      let sent_reach = parts (reach path) sent_in s ss in
      let sent_strict = parts (strict path) sent_in s ss in
      let sent_only = parts (only path) sent_in s ss in
      let taken_reach = parts (reach path) taken_in s ss in
      let taken_strict = parts (strict path) taken_in s ss in
      let taken_only = parts (only path) taken_in s ss in
      let own_reach = ap (λ l. sum_by (reach path) (s.task ∷ l)) each.0.untaken ∙ sum_by-cons (reach path) s.task [] in
      let own_strict = ap (λ l. sum_by (strict path) (s.task ∷ l)) each.0.untaken ∙ sum_by-cons (strict path) s.task [] in
      let own_only = ap (λ l. sum_by (only path) (s.task ∷ l)) each.0.untaken ∙ sum_by-cons (only path) s.task [] in
      let judged = judged-split path s ss in
      let ends = parts (only path) ended_in s ss in
      (here.0 + later.0, record { within = omega arith; strict_within = omega arith; of_taken = omega arith; of_judged = omega arith; of_ended = omega arith; sent_is = omega arith })

  abbrev noted_sent : List Doing → List (List ℕ)
  noted_sent ds = flat_map (λ (d : Doing). sent_paths d.notes) ds

  -- how often a path stands in the entries of one worker
  abbrev Few : List ℕ → ℕ → ℕ → Doing → Type 0
  Few path held sent d = (occurs path (taken_paths d.notes) ≤ held) × (occurs path (paths (judgements d.notes)) ≤ held) × (occurs path (ended_paths d.notes) ≤ held) × (occurs path (sent_paths d.notes) ≤ sent)

  pub record AreHeld (path : List ℕ) (ds : List Doing) (held : ℕ) : Type 0 where
    pub within : held + sum_by (reach path) (noted_sent ds) ≤ sum_by (reach path) (all_took ds)
    pub strict_within : sum_by (reach path) (noted_sent ds) ≤ sum_by (strict path) (all_took ds)
    pub sent_is : sum_by (reach path) (noted_sent ds) ≡ sum_by (strict path) (noted_sent ds) + occurs path (noted_sent ds)
    pub sent_reach : sum_by (reach path) (all_sent ds) ≤ sum_by (reach path) (noted_sent ds)
    pub sent_strict : sum_by (strict path) (all_sent ds) ≤ sum_by (strict path) (noted_sent ds)
    pub each : AllByRecursion (Few path held (occurs path (noted_sent ds))) ds

  few-more : (path : List ℕ) (held sent held' sent' : ℕ) → held ≤ held' → sent ≤ sent' → (ds : List Doing) → AllByRecursion (Few path held sent) ds
      → AllByRecursion (Few path held' sent') ds
  few-more path held sent held' sent' a b [] each = tt
  few-more path held sent held' sent' a b (d ∷ ds) each =
      let k = each.0.0 in let l = each.0.1 in let m = each.0.2 in let n = each.0.3 in
      ((omega arith, omega arith, omega arith, omega arith), few-more path held sent held' sent' a b ds each.1)

  all-held : (path : List ℕ) (ds : List Doing) → AllByRecursion (IsDoing t) ds → (held : ℕ) × AreHeld path ds held
  all-held path [] are = (0, record { within = omega arith; strict_within = omega arith; sent_is = refl; sent_reach = omega arith; sent_strict = omega arith; each = tt })
  all-held path (d ∷ ds) are =
      let own : (held : ℕ) × IsLogHeld path d.notes held = subst (λ ns. (held : ℕ) × IsLogHeld path ns held) (sym are.0.cut_up) (log-held path are.0.segments are.0.each) in
      let later = all-held path ds are.1 in
      let o = own.1 in let l = later.1 in
      let o_within = o.within in let o_strict = o.strict_within in let o_taken = o.of_taken in let o_judged = o.of_judged in let o_ended = o.of_ended in let o_sent = o.sent_is in
      let l_within = l.within in let l_strict = l.strict_within in let l_sent = l.sent_is in let l_reach = l.sent_reach in let l_sent_strict = l.sent_strict in
      let took_reach = are.0.taken_are.weighs (reach path) in let took_strict = are.0.taken_are.weighs (strict path) in
      let sent_reach = are.0.sent_are.weighs (reach path) in let sent_strict = are.0.sent_are.weighs (strict path) in
      let a = sum_by-append (reach path) (sent_paths d.notes) (noted_sent ds) in let b = sum_by-append (strict path) (sent_paths d.notes) (noted_sent ds) in
      let c = sum_by-append (only path) (sent_paths d.notes) (noted_sent ds) in
      let e = sum_by-append (reach path) d.took (all_took ds) in let f = sum_by-append (strict path) d.took (all_took ds) in
      let g = sum_by-append (reach path) d.sent (all_sent ds) in let h = sum_by-append (strict path) d.sent (all_sent ds) in (
        own.0 + later.0,
        record {
          within = omega arith;
          strict_within = omega arith;
          sent_is = omega arith;
          sent_reach = omega arith;
          sent_strict = omega arith;
          each = ((omega arith, omega arith, omega arith, omega arith), few-more path later.0 (occurs path (noted_sent ds)) (own.0 + later.0) (occurs path (noted_sent (d ∷ ds))) (omega arith) (omega arith) ds l.each);
        },
      )

  -- no path stands twice in the entries of one kind of one worker, where all that was taken is the root's task and what was sent
  few-ones : (path : List ℕ) (ds : List Doing) → AllByRecursion (IsDoing t) ds → PartOfBag (all_took ds) ([] ∷ all_sent ds) → AllByRecursion (Few path 1 1) ds
  few-ones path ds are part =
      let all = all-held path ds are in let k = all.1 in
      let within = k.within in let strict_within = k.strict_within in let sent_is = k.sent_is in let sent_reach = k.sent_reach in let sent_strict = k.sent_strict in
      let root = tree-once t ranked root_sound path in
      let took_reach = part.weighs (reach path) in let took_strict = part.weighs (strict path) in
      let a = sum_by-cons (reach path) [] (all_sent ds) in let b = sum_by-cons (strict path) [] (all_sent ds) in
      few-more path all.0 (occurs path (noted_sent ds)) 1 1 (omega arith) (omega arith) ds k.each

  pub once-only : (ds : List Doing) → AllByRecursion (IsDoing t) ds → PartOfBag (all_took ds) ([] ∷ all_sent ds)
      → AllByRecursion (λ (d : Doing). OneOfAKind d.notes) ds
  once-only ds are part = by ds (λ path. few-ones path ds are part)
    where
      by : (ds : List Doing) → ((path : List ℕ) → AllByRecursion (Few path 1 1) ds) → AllByRecursion (λ (d : Doing). OneOfAKind d.notes) ds
      by [] f = tt
      by (d ∷ ds) f = (record { taken_once = λ path. (f path).0.0; judged_once = λ path. (f path).0.1; sent_once = λ path. (f path).0.3; ended_once = λ path. (f path).0.2 }, by ds (λ path. (f path).1))

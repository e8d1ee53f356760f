-- The caller's walk of what all workers left was refused: what it had noted of it, and why that is a fault of the crew.
use Rattle.std.proofs.Common.{◌≡◌, ℕ, ◌<◌, ◌≤◌, ◌∙◌, List, [], ◌∷◌, ◌++◌, None, map, refl, sym, ap, subst, append_assoc, arith}
use Rattle.std.specs.Prelude.{IsSome}
use Rattle.std.specs.List.{AllByRecursion, sum_by}
use Rattle.std.proofs.lemmas.List.Concat.{flat_map-append}
use Rattle.std.proofs.lemmas.List.Sums.{sum_by-append, sum_by-cons}
use Rattle.atomic_table.specs.Seated.{TableId}
use Rattle.yew_best.specs.Seats.{SeatView}
use Rattle.yew_laws.specs.Bag.{SameBag, PartOfBag}
use Rattle.yew_laws.specs.Fold.{IsTally}
use Rattle.yew_laws.specs.SearchTree.{SearchTree, search_tree}
use Rattle.yew_laws.specs.Tasks.{members_of}
use Rattle.yew_laws.specs.Tree.{IsRanked, IsBounded}
use Rattle.yew_laws.specs.declared.problem.Problem.{Ghosts}
use Rattle.yew_laws.specs.declared.problem.Task.{Task}
use Rattle.yew_laws.proofs.Members.{AllByRecursion-append, AllByRecursion-weaker}
use Rattle.yew_log.specs.Groups.{HasGroups, NoGroup}
use Rattle.yew_log.specs.HeldValues.{plain, IsLater}
use Rattle.yew_log.specs.Lawful.{AreWalks, IsBrokenLog, tasks_of}
use Rattle.yew_log.specs.Notes.{Note, judgements, judgement_in, taken_in, taken_paths, sent_in, sent_paths}
use Rattle.yew_log.specs.Places.{AtEach}
use Rattle.yew_log.specs.Policies.{plain_policy}
use Rattle.yew_log.specs.Segment.{Segment, entries, entries_in, IsSegment, IsBroken, Begins, OneOfAKind}
use Rattle.yew_log.proofs.Growth.{HeldRises-append}
use Rattle.yew_log.proofs.Walks.{IsJudged-append}
use Rattle.yew_stack.specs.Splits.{paths_of}
use Rattle.yew_walk.specs.declared.fault.SearchFault.{SearchFault}
use Rattle.yew_walk.specs.declared.hand.Hand.{Hand}
use Rattle.yew_walk.specs.declared.keying.Keying.TheVariants.{Gap}
use Rattle.yew_walk.specs.LogViews.{LogView, log_after}
use Rattle.yew_walk.specs.Scenes.{IsRefused, scene}
use Rattle.yew_walk.specs.Seats.{SeatGoes}
use Rattle.yew_walk.specs.WorkerLogs.{SeatGoesOn}
use Rattle.yew_walk.proofs.Sending.{log_after-append}
use Rattle.yew_crew.specs.CrewSearch.{IsCrewFault}
use Rattle.yew_crew.specs.Groups.{taken}
use Rattle.yew_crew.specs.Reports.{IsDone}
use Rattle.yew_crew.specs.Resting.{IsRestRefused}
use Rattle.yew_crew.specs.Starting.{IsBegun}
use Rattle.yew_crew.specs.Stations.{searched, skeleton_of}
use Rattle.yew_crew.specs.Working.{gap_walk, IsWalkSegment}
use Rattle.yew_crew.specs.declared.coord.Coord.{Coord}
use Rattle.yew_crew.specs.declared.coord.Coord.TheVariants.{Depth}
use Rattle.yew_crew.specs.declared.station.Shared.{Shared}
use Rattle.yew_crew.specs.declared.station.Station.{Station}
use Rattle.yew_crew.proofs.BrokenSteps.{taken-broken}
use Rattle.yew_crew.proofs.FullAudits.{full-audit}
use Rattle.yew_crew.proofs.LaterWalks.{IsKnown, goes-later, all-later}
use Rattle.yew_crew.proofs.OnceOnly.{Doing, IsDoing, all_took, all_sent, once-only}
use Rattle.yew_crew.proofs.Rests.{IsResting, empty-list, empty-bag, depth-none}
use Rattle.yew_crew.proofs.SegmentSums.{taken-segments}
use Rattle.yew_crew.proofs.WalkedParts.{ones, sent-dealt}
use Rattle.yew_crew.proofs.WorkDone.{each-segment}
use Rattle.yew_crew.proofs.WorkRefused.{goes-front, without-last, broken-work}

module _ {P N K S R : Type 0} (meaning : Ghosts P N K) (problem : P) (join : S → S → S) (none : S) (of : N → ℕ → S) (seen : R → LogView) (gap : ℕ)
    {fits : S → Type 0} (tally : IsTally fits join none) (of_fits : (n : N) (depth : ℕ) → fits (of n depth)) (table : TableId) where
  -- the walk of the last of the tasks that are left was refused
  pub resting-refused : (b0 : SeatView) (h0 : Hand S) (l0 : R) (b : SeatView) (h : Hand S) (l : R) (b' : SeatView) (h' : Hand S) (l' : R)
      (all left left' : List (Task N)) (task : Task N) (sent0 sent : List (Task N)) (fault : SearchFault) → left ≡ left' ++ task ∷ []
      → IsResting meaning problem join none of seen gap tally of_fits table b0 h0 l0 b h l all left
      → IsRefused meaning problem (Gap gap) join of plain_policy task.path.numbers
      (scene b h tt sent0 None (seen l)) (scene b' h' tt sent None (seen l')) fault
      → IsRestRefused (searched (search_tree meaning problem) join none of seen (Depth 0) gap) (paths_of all) fault b0 l0 b' l'
  resting-refused b0 h0 l0 b h l b' h' l' all left left' task sent0 sent fault left_is resting refused =
      let t = search_tree meaning problem in
      let s = searched t join none of seen (Depth 0) gap in
      let w = resting.work in
      let done = entries w.segments in
      let whole = without-last t gap s refl refl b0 b w.segments w.walks w.goes in
      let task_path = task.path.numbers in
      let with_ahead = refused.notes ++ refused.ahead in
      let front = goes-front t gap b b' refused.notes refused.ahead refused.goes in
      record {
        segments = w.segments;
        task = task.path.numbers;
        notes = refused.notes;
        ahead = refused.ahead;
        walks = record {
          each = each-segment s w.segments w.walks;
          groups = AllByRecursion-weaker (IsWalkSegment s) (λ (x : Segment). HasGroups NoGroup x.body) (λ x p. depth-none t x.body p.groups)
              w.segments w.walks;
          held_rises = whole.keeps.held_rises;
          due = whole.keeps.due;
        };
        sent_none = empty-list (sent_paths done) (
            let a = sent-dealt (λ _. 1) done in let c = w.spawned_are.weighs (λ _. 1) in let d = w.handed_are.weighs (λ _. 1) in
            let e = ap (sum_by (λ (_ : List ℕ). 1)) (empty-bag w.put w.moved.put_is) in
            let f = ap (sum_by (λ (_ : List ℕ). 1)) (empty-bag w.given w.moved.given_is) in let g = ones (sent_paths done) in omega arith);
        taken_are = record {
          weighs = λ k. (
              let a = w.taken_are.weighs k in let c = w.moved.took_is.weighs k in let d = w.moved.got_is.weighs k in
              let e = sum_by-append k w.took w.got in let f = sum_by-append k (tasks_of w.segments) (paths_of left) in
              let g = sum_by-append k (tasks_of w.segments) (task.path.numbers ∷ []) in
              let i = ap (λ ts. sum_by k (paths_of ts)) left_is in let j = with-last k left' in omega arith);
        };
        broken = refused.keeps_ahead;
        part = refused.part;
        keeps = (broken-work t gap s refl refl task_path b0 b front.0 w.segments refused.notes w.walks w.goes front.1 refused.keeps).1.keeps;
        keeps_ahead = (broken-work t gap s refl refl task_path b0 b b' w.segments with_ahead w.walks w.goes refused.goes refused.keeps_ahead).1.keeps;
        between = b;
        goes = w.goes;
        goes_last = refused.goes;
        log_is = refused.log_is ∙ (ap (λ v. log_after v refused.notes) w.log_is ∙ sym (log_after-append (seen l0) done refused.notes));
        cause = refused.cause;
      }
    where
      with-last : (k : List ℕ → ℕ) (ts : List (Task N)) → sum_by k (task.path.numbers ∷ []) ≤ sum_by k (paths_of (ts ++ task ∷ []))
      with-last k [] = omega arith
      with-last k (u ∷ us) =
          let a = with-last k us in let c = sum_by-cons k u.path.numbers (paths_of (us ++ task ∷ [])) in omega arith

-- whether a segment has entries does not depend on what stands before it
other-before : (b b' : List Segment) (segments : List Segment) → AtEach (λ _ (x : Segment) a. x.body ≡ [] → a ≡ []) b segments
    → AtEach (λ _ (x : Segment) a. x.body ≡ [] → a ≡ []) b' segments
other-before b b' [] at = tt
other-before b b' (x ∷ xs) at = (at.0, other-before (b ++ x ∷ []) (b' ++ x ∷ []) xs at.1)

module _ {N : Type 0} (t : SearchTree N) (gap : ℕ) where
  whole-then : (before own last : List Segment) → AllByRecursion (IsSegment t) own → AtEach (λ _ (x : Segment) a. x.body ≡ [] → a ≡ []) [] last
      → AtEach (λ _ (x : Segment) a. x.body ≡ [] → a ≡ []) before (own ++ last)
  whole-then before [] last each at = other-before [] before last at
  whole-then before (x ∷ xs) last each at = ((λ e. absurd (subst (Begins x.task) e each.0.begins)), whole-then (before ++ x ∷ []) xs last each.1 at)

  -- walks, and then entries that were broken off, whose held values are later
  pub walks-then : (rule : List Note → Note → List Note → Type 0) (own : List Segment) (more : List Note) → AreWalks t gap plain rule own
      → AllByRecursion (IsBroken t) own → IsBrokenLog t gap plain more → AllByRecursion (IsLater (entries own)) (judgements more)
      → IsBrokenLog t gap plain (entries own ++ more)
  walks-then rule own more walks broken kept later =
      let rises = HeldRises-append (entries own) more walks.held_rises kept.held_rises later in
      record {
        segments = own ++ kept.segments;
        cut_up = ap (λ l. entries own ++ l) kept.cut_up ∙ sym (flat_map-append entries_in own kept.segments);
        each = AllByRecursion-append (IsBroken t) own kept.segments broken kept.each;
        only_last = whole-then [] own kept.segments walks.each kept.only_last;
        held_rises = rises;
        due = IsJudged-append t gap (entries own) more rises walks.due kept.due;
      }

  -- a seat that has gone on still knows what it knew
  known-on : (own : List Note) (segments : List Segment) (a b : SeatView) → IsKnown own a → SeatGoesOn t a (map (gap_walk gap) segments) b → IsKnown own b
  known-on own [] a b known goes = subst (IsKnown own) (sym goes) known
  known-on own (x ∷ xs) a b known goes = known-on own xs goes.0 b (goes-later own t gap a goes.0 (entries_in x) known goes.1).known goes.2

  -- walks of a seat, and the entries of one more, are later than what it knew before
  rest-later : (own : List Note) (segments : List Segment) (more : List Note) (a between b : SeatView) → IsKnown own a
      → SeatGoesOn t a (map (gap_walk gap) segments) between → SeatGoes t (Gap gap) between more b
      → AllByRecursion (IsLater own) (judgements (entries segments ++ more))
  rest-later own segments more a between b known goes goes_last =
      subst (AllByRecursion (IsLater own)) (sym (flat_map-append judgement_in (entries segments) more))
      (AllByRecursion-append (IsLater own) (judgements (entries segments)) (judgements more) (all-later own t gap segments a between known goes)
      (goes-later own t gap between b more (known-on own segments a between known goes) goes_last).later)

module _ {N S R : Type 0} (t : SearchTree N) (join : S → S → S) (none : S) (of : N → ℕ → S) (seen : R → LogView) (coord : Coord) (gap : ℕ) (before after : Station N S R)
    (done : IsDone (searched t join none of seen coord gap) before after) (paths : List (List ℕ)) (fault : SearchFault) (seat seat' : SeatView) (log' : R)
    (rest : IsRestRefused (searched t join none of seen (Depth 0) gap) paths fault seat after.log seat' log') where
  -- the entries of the first worker, and behind them what the caller noted in its place
  abbrev pub with-rest : List Note
  with-rest = entries done.segments.segments ++ (entries rest.segments ++ rest.notes)

  -- they stand in this order
  with-ahead : with-rest ++ rest.ahead ≡ entries done.segments.segments ++ (entries rest.segments ++ (rest.notes ++ rest.ahead))
  with-ahead =
      let own = entries done.segments.segments in
      append_assoc own (entries rest.segments ++ rest.notes) rest.ahead ∙ ap (λ l. own ++ l) (append_assoc (entries rest.segments) rest.notes rest.ahead)

  -- they are a log that was broken off
  rest-keeps : AllByRecursion (IsBroken t) done.segments.segments → IsKnown (entries done.segments.segments) seat → IsBrokenLog t gap plain with-rest
  rest-keeps broken known =
      let own = done.segments.segments in
      let front = goes-front t gap rest.between seat' rest.notes rest.ahead rest.goes_last in
      walks-then t gap _ own (entries rest.segments ++ rest.notes) done.segments.walks broken rest.keeps
      (rest-later t gap (entries own) rest.segments rest.notes seat rest.between front.0 known rest.goes front.1)

  -- and also with the entry ahead
  rest-keeps_ahead : AllByRecursion (IsBroken t) done.segments.segments → IsKnown (entries done.segments.segments) seat
      → IsBrokenLog t gap plain (with-rest ++ rest.ahead)
  rest-keeps_ahead broken known =
      let own = done.segments.segments in
      let last = rest.notes ++ rest.ahead in
      subst (IsBrokenLog t gap plain) (sym with-ahead)
      (walks-then t gap _ own (entries rest.segments ++ last) done.segments.walks broken rest.keeps_ahead
      (rest-later t gap (entries own) rest.segments last seat rest.between seat' known rest.goes rest.goes_last))

  -- what the first worker did and what the caller did in its place, which sent nothing
  abbrev pub doing-with_rest : Doing
  doing-with_rest = let group = done.work.group in record {
    notes = with-rest ++ rest.ahead;
    took = taken group ++ paths;
    sent = group.put ++ group.given;
  }

  pub rest-doing : AllByRecursion (IsBroken t) done.segments.segments → IsKnown (entries done.segments.segments) seat → IsDoing t doing-with_rest
  rest-doing broken known =
      let group = done.work.group in
      let own = done.segments.segments in
      let last = rest.notes ++ rest.ahead in
      let kept = rest-keeps_ahead broken known in
      record {
        segments = kept.segments;
        cut_up = kept.cut_up;
        each = kept.each;
        taken_are = subst (λ l. PartOfBag (taken_paths l) (taken group ++ paths)) (sym with-ahead) record {
          weighs = λ h. (
              let a = ap (sum_by h) (flat_map-append taken_in (entries own) (entries rest.segments ++ last)) in
              let b = sum_by-append h (taken_paths (entries own)) (taken_paths (entries rest.segments ++ last)) in
              let c = ap (sum_by h) (taken-segments t own done.segments.walks.each) in
              let d = ap (sum_by h) (flat_map-append taken_in (entries rest.segments) last) in
              let e = sum_by-append h (taken_paths (entries rest.segments)) (taken_paths last) in
              let f = ap (sum_by h) (taken-segments t rest.segments rest.walks.each) in
              let g = taken-broken t gap h rest.task last rest.broken in
              let i = done.segments.tasks_are.weighs h in
              let j = rest.taken_are.weighs h in
              let k = sum_by-append h (tasks_of rest.segments) (rest.task ∷ []) in
              let l = sum_by-cons h rest.task [] in
              let m = sum_by-append h (taken group) paths in omega arith);
        };
        sent_are = subst (λ l. PartOfBag (group.put ++ group.given) (sent_paths l)) (sym with-ahead) record {
          weighs = λ h. (
              let a = done.segments.spawned_are.weighs h in
              let b = done.segments.handed_are.weighs h in
              let c = sent-dealt h (entries own) in
              let d = sum_by-append h group.put group.given in
              let e = ap (sum_by h) (flat_map-append sent_in (entries own) (entries rest.segments ++ last)) in
              let f = sum_by-append h (sent_paths (entries own)) (sent_paths (entries rest.segments ++ last)) in omega arith);
        };
      }

  -- no path has two entries of a kind, where all that the crew took or left is the root's task and what was sent
  pub rest-once : {sound : N → Type 0} → IsRanked sound t.children t.rank → IsBounded sound t.children t.worth t.bound → sound t.root
      → AllByRecursion (IsBroken t) done.segments.segments → IsKnown (entries done.segments.segments) seat
      → (others : List Doing) → AllByRecursion (IsDoing t) others
      → SameBag ((taken done.work.group ++ all_took others) ++ paths) ([] ∷ ((done.work.group.put ++ done.work.group.given) ++ all_sent others))
      → OneOfAKind (with-rest ++ rest.ahead)
  rest-once ranked bounded root_sound broken known others are same =
      let group = done.work.group in
      (once-only t ranked bounded root_sound (doing-with_rest ∷ others) (rest-doing broken known, are) record {
        weighs = λ h. (
            let a = same.weighs h in
            let b = sum_by-append h (taken group ++ all_took others) paths in
            let c = sum_by-append h (taken group) (all_took others) in
            let d = sum_by-append h (taken group ++ paths) (all_took others) in
            let e = sum_by-append h (taken group) paths in omega arith);
      }).0

  -- the caller's fault is one of the crew, as the first worker's
  pub rest-fault : (shared : Shared N) (made : ℕ) (put : List (Task N)) (workers : ℕ) (tells : Type 0)
      → IsBegun (members_of t) none seen shared 0 made put before
      → AllByRecursion (IsBroken t) done.segments.segments → IsKnown (entries done.segments.segments) seat → 1 < workers
      → OneOfAKind (with-rest ++ rest.ahead) → (IsSome (seen log').told → tells) → IsCrewFault t gap (skeleton_of coord) workers tells fault
  rest-fault shared made put workers tells begun broken known several one telling =
      let own = entries done.segments.segments in
      let more = entries rest.segments ++ rest.notes in
      let log_is = rest.log_is ∙ (ap (λ v. log_after v more) done.segments.log_is ∙ sym (log_after-append (seen before.log) own more)) in
      full-audit t gap coord workers 1 tells (seen before.log) (seen log') with-rest fault rest.ahead rest.cause
      begun.told begun.log_number (omega arith) (omega arith) log_is
      (rest-keeps broken known) (rest-keeps_ahead broken known) (λ e. absurd (omega arith)) telling one

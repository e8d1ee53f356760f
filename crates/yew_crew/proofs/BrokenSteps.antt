-- A walk that was refused, and the worker whose walk it was: what it has done is a part of what its tasks are.
use Rattle.std.proofs.Common.{◌≡◌, ℕ, ◌+◌, ◌∙◌, List, [], ◌∷◌, ◌++◌, ◌⊎◌, inl, inr, refl, sym, ap, subst, append-nil, append_assoc, arith, Bool, Option}
use Rattle.std.specs.Prelude.{◌≤◌}
use Rattle.std.specs.List.{AllByRecursion, flat_map, sum_by}
use Rattle.std.proofs.lemmas.List.Concat.{flat_map-append}
use Rattle.std.proofs.lemmas.List.Sums.{sum_by-append, sum_by-cons}
use Rattle.yew_best.specs.Seats.{SeatView}
use Rattle.yew_laws.specs.Bag.{PartOfBag}
use Rattle.yew_laws.specs.SearchTree.{SearchTree, search_tree, below}
use Rattle.yew_laws.specs.Tasks.{Members}
use Rattle.yew_laws.specs.declared.problem.Problem.{Ghosts}
use Rattle.yew_laws.specs.declared.problem.Task.{Task}
use Rattle.yew_laws.proofs.Bags.{same-flat_map, same-is, same-refl}
use Rattle.yew_log.specs.HeldValues.{plain, HeldIsMaximum}
use Rattle.yew_log.specs.Lawful.{IsBrokenLog, IsBrokenWalk, tasks_of}
use Rattle.yew_log.specs.Notes.{Note, taken, taken_in, taken_paths, sent_in, sent_paths}
use Rattle.yew_log.specs.Policies.{PolicyMeaning}
use Rattle.yew_log.specs.Segment.{segment, entries, covered_paths, IsBroken}
use Rattle.yew_mail.specs.Seats.{SeatView as MailSeatView}
use Rattle.yew_pool.specs.Passes.{PassView}
use Rattle.yew_stack.specs.Splits.{paths_of}
use Rattle.yew_walk.specs.declared.fault.SearchFault.{SearchFault}
use Rattle.yew_walk.specs.declared.hand.Hand.{Hand}
use Rattle.yew_walk.specs.declared.keying.Keying.TheVariants.{Gap}
use Rattle.yew_walk.specs.LogViews.{LogView, log_after}
use Rattle.yew_walk.specs.Scenes.{IsRefused, scene}
use Rattle.yew_walk.proofs.Sending.{log_after-append}
use Rattle.yew_crew.specs.OpenSeats.{OpenSeatView}
use Rattle.yew_crew.specs.Outlets.{SpawningView, KeepsSpawning}
use Rattle.yew_crew.specs.Reports.{IsFaulty}
use Rattle.yew_crew.specs.Stations.{Searched, searched, station}
use Rattle.yew_crew.specs.Working.{IsBrokenStep, IsWorking}
use Rattle.yew_crew.specs.declared.coord.Coord.{Coord}
use Rattle.yew_crew.specs.declared.station.Station.{Station}
use Rattle.yew_crew.proofs.SegmentSums.{weigh-append, weigh-covered, weigh-segments, taken-segments}
use Rattle.yew_crew.proofs.SpawnStep.{paths-grow}
use Rattle.yew_crew.proofs.WalkedParts.{sent-dealt}
use Rattle.yew_crew.proofs.WorkDone.{each-segment}
use Rattle.yew_crew.proofs.WorkRefused.{goes-front, broken-work}
use Rattle.yew_crew.proofs.WorkSteps.{grow, stay}
use Rattle.yew_crew.proofs.WorkTurns.{stays}

module _ {P N K S R Q : Type 0} (meaning : Ghosts P N K) (problem : P) (join : S → S → S) (none : S) (of : N → ℕ → S) (seen : R → LogView) (coord : Coord) (gap : ℕ)
    (policy : PolicyMeaning Q) where
  -- a refused walk, and the tasks that it had sent to the pool
  pub spawn-broken : (task : List ℕ) (fault : SearchFault) (number : ℕ) (mail : MailSeatView (Task N) (Members N)) (b0 b1 : SeatView) (h0 h1 : Hand S)
      (q0 q1 : Q) (o0 o1 : SpawningView P N)
      (answers0 answers1 : Option (List Bool)) (l0 l1 : R)
      → IsRefused meaning problem (Gap gap) join of policy task (scene b0 h0 q0 o0.pass.put answers0 (seen l0))
      (scene b1 h1 q1 o1.pass.put answers1 (seen l1)) fault
      → KeepsSpawning o0 o1 → b1.best ≡ b0.best → b1.share ≡ b0.share
      → IsBrokenStep (searched (search_tree meaning problem) join none of seen coord gap) task fault (station number b0 o0.pass mail o0.tasks h0 l0)
      (station number b1 o1.pass mail o1.tasks h1 l1)
  spawn-broken task fault number mail b0 b1 h0 h1 q0 q1 o0 o1 answers0 answers1 l0 l1 refused kept seat_is share_is =
      let PassOf : Type 0 = PassView (Task N) (Members N) in
      record {
        notes = refused.notes;
        ahead = refused.ahead;
        put = paths_of refused.tasks;
        given = [];
        moved = record {
          took_is = same-is (ap (λ (p : PassOf). paths_of p.took) kept.pass ∙ sym (append-nil (paths_of o0.pass.took)));
          put_is = paths-grow o0.pass.put o1.pass.put refused.tasks (paths_of refused.tasks) refused.sent_are (same-refl (paths_of refused.tasks));
          got_is = stays (paths_of mail.got);
          given_is = stays (paths_of mail.given);
        };
        log_is = refused.log_is;
        keeps = refused.keeps;
        keeps_ahead = refused.keeps_ahead;
        part = refused.part;
        goes = refused.goes;
        sent_are = subst (λ l. PartOfBag l (sent_paths refused.notes)) (sym (append-nil (paths_of refused.tasks))) refused.noted;
        cause = refused.cause;
        no_stop = ap (λ (t : OpenSeatView). t.stops) kept.tasks.same;
        same = record {
          number = refl;
          best = seat_is;
          best_share = share_is;
          pool = ap (λ (p : PassOf). p.pool) kept.pass;
          pass_number = ap (λ (p : PassOf). p.number) kept.pass;
          pass_share = ap (λ (p : PassOf). p.share) kept.pass;
          pass_members = ap (λ (p : PassOf). p.members) kept.pass;
          mail = refl;
          mail_share = refl;
          mail_numbers = refl;
          mail_members = refl;
          tasks = ap (λ (t : OpenSeatView). t.tasks) kept.tasks.same;
          tasks_share = ap (λ (t : OpenSeatView). t.share) kept.tasks.same;
        };
      }

-- a walk that was broken off notes at most its task as taken
pub taken-broken : {N : Type 0} (t : SearchTree N) (gap : ℕ) (h : List ℕ → ℕ) (path : List ℕ) (notes : List Note) → IsBrokenWalk t gap plain path notes
    → sum_by h (taken_paths notes) ≤ h path
taken-broken t gap h path notes b = by b.of_task
  where
    by : (b.keeps.segments ≡ []) ⊎ ((body : List Note) × (b.keeps.segments ≡ segment path body ∷ [])) → sum_by h (taken_paths notes) ≤ h path
    by (inl none) =
        let empty : notes ≡ [] = b.keeps.cut_up ∙ ap entries none in
        let e = ap (λ l. sum_by h (taken_paths l)) empty in omega arith
    by (inr one) =
        let is : notes ≡ taken path ∷ one.0 = b.keeps.cut_up ∙ (ap entries one.1 ∙ append-nil (taken path ∷ one.0)) in
        let e = ap (λ l. sum_by h (taken_paths l)) is in
        let kept = (subst (AllByRecursion (IsBroken t)) one.1 b.keeps.each).0 in
        let c = sum_by-cons h path (taken_paths one.0) in
        let d = ap (λ l. sum_by h l) kept.untaken in omega arith

module _ {N S R : Type 0} (t : SearchTree N) (join : S → S → S) (none : S) (of : N → ℕ → S) (seen : R → LogView) (coord : Coord) (gap : ℕ) where
  -- a worker whose walk was refused, and which told the others to stop
  pub work-broken : {others : List (List ℕ)} (path : List ℕ) (fault : SearchFault) (first before after : Station N S R) (tasks : OpenSeatView)
      → IsWorking (searched t join none of seen coord gap) (path ∷ others) first before
      → IsBrokenStep (searched t join none of seen coord gap) path fault before after
      → tasks ≡ record after.tasks { stops = after.tasks.stops + 1 }
      → IsFaulty (searched t join none of seen coord gap) fault first (record after { tasks = tasks })
  work-broken {others} path fault first before after tasks w b stopped =
      let s : Searched S R N = searched t join none of seen coord gap in
      let done = entries w.segments in
      let rest = b.notes ++ b.ahead in
      let all : (done ++ b.notes) ++ b.ahead ≡ done ++ rest = append_assoc done b.notes b.ahead in
      let are = each-segment s w.segments w.walks in
      let front = goes-front t gap before.best after.best b.notes b.ahead b.goes in
      let kept = (broken-work t gap s refl refl path first.best before.best front.0 w.segments b.notes w.walks w.goes front.1 b.keeps).1 in
      let kept_ahead = (broken-work t gap s refl refl path first.best before.best after.best w.segments rest w.walks w.goes b.goes b.keeps_ahead).1 in
      record {
        ahead = b.ahead;
        part = record {
          notes = done ++ b.notes;
          took = w.took;
          put = w.put ++ b.put;
          got = w.got;
          given = w.given ++ b.given;
          moved = record {
            took_is = stay (paths_of first.pool.took) (paths_of before.pool.took) (paths_of after.pool.took) w.took w.moved.took_is b.moved.took_is;
            put_is = grow (paths_of first.pool.put) (paths_of before.pool.put) (paths_of after.pool.put) w.put b.put w.moved.put_is b.moved.put_is;
            got_is = stay (paths_of first.mail.got) (paths_of before.mail.got) (paths_of after.mail.got) w.got w.moved.got_is b.moved.got_is;
            given_is = grow (paths_of first.mail.given) (paths_of before.mail.given)
                (paths_of after.mail.given) w.given b.given w.moved.given_is b.moved.given_is;
          };
          log_is = b.log_is ∙ (ap (λ l. log_after l b.notes) w.log_is ∙ sym (log_after-append (seen first.log) done b.notes));
          part = subst (λ l. PartOfBag (covered_paths t l) (flat_map (below t) (w.took ++ w.got))) (sym all) record {
            weighs = λ h. (
                let a = weigh-covered t h (done ++ rest) in
                let c = weigh-append t h done rest in
                let d = weigh-segments t h w.segments are in
                let e = weigh-covered t h rest in
                let g = b.part.weighs h in
                let i = (same-flat_map (below t) w.taken_are).weighs h in
                let j = ap (λ l. sum_by h l) (flat_map-append (below t) (tasks_of w.segments) (path ∷ others)) in
                let k = sum_by-append h (flat_map (below t) (tasks_of w.segments)) (flat_map (below t) (path ∷ others)) in
                let m = sum_by-append h (below t path) (flat_map (below t) others) in omega arith);
          };
          taken_are = subst (λ l. PartOfBag (taken_paths l) (w.took ++ w.got)) (sym all) record {
            weighs = λ h. (
                let a = ap (λ l. sum_by h l) (flat_map-append taken_in done rest) in
                let c = sum_by-append h (taken_paths done) (taken_paths rest) in
                let d = ap (λ l. sum_by h l) (taken-segments t w.segments are) in
                let e = taken-broken t gap h path rest b.keeps_ahead in
                let g = w.taken_are.weighs h in
                let i = sum_by-append h (tasks_of w.segments) (path ∷ others) in
                let j = sum_by-cons h path others in omega arith);
          };
          sent_are = record {
            weighs = λ h. (
                let a = w.spawned_are.weighs h in
                let c = w.handed_are.weighs h in
                let d = sent-dealt h done in
                let e = b.sent_are.weighs h in
                let g = sum_by-append h b.put b.given in
                let i = sum_by-append h w.put b.put in
                let j = sum_by-append h w.given b.given in
                let k = sum_by-append h (w.put ++ b.put) (w.given ++ b.given) in
                let m = ap (λ l. sum_by h l) (flat_map-append sent_in done b.notes) in
                let n = sum_by-append h (sent_paths done) (sent_paths b.notes) in omega arith);
          };
          keeps = kept.keeps;
          keeps_ahead = subst (λ l. (IsBrokenLog t gap plain l)) (sym all) kept_ahead.keeps;
          alone = λ a. subst HeldIsMaximum (sym all) (kept_ahead.alone a.none_offered a.whole);
        };
        cause = b.cause;
        one_stop = ap (λ (o : OpenSeatView). o.stops) stopped ∙ (ap (λ n. n + 1) (b.no_stop ∙ w.no_stop));
      }

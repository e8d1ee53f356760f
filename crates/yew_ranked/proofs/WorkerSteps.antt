-- A worker of an ordered search, from task to task.
use Rattle.std.proofs.Common.{◌≡◌, ℕ, suc, ◌+◌, ◌-◌, ◌<◌, ◌≤◌, ◌∙◌, ◌||◌, Bool, true, false, List, [], ◌∷◌, ◌++◌, Some}
use Rattle.std.proofs.Common.{All, map, length, slice_index_or, refl, sym, ap, subst, append-nil, append_assoc, arith}
use Rattle.std.specs.Prelude.{slice_get}
use Rattle.std.specs.List.{AllByRecursion}
use Rattle.std.proofs.lemmas.List.{map-append}
use Rattle.std.proofs.lemmas.List.Concat.{flat_map-append}
use Rattle.std.proofs.lemmas.List.Elements.{recursion_from_All}
use Rattle.std.specs.Option.{option_map}
use Rattle.std.proofs.lemmas.Option.{slice_get_within, slice_get-map, slice_get_read}
use Rattle.yew_crew.specs.OpenSeats.{OpenSeatView}
use Rattle.yew_crew.specs.declared.station.End.TheVariants.{Done, Stopped, Fault}
use Rattle.yew_crew.proofs.WorkSteps.{entries-push, fold-append, read-push}
use Rattle.yew_laws.specs.Fold.{fold_of, of_member, IsTally}
use Rattle.yew_laws.specs.Incumbent.{Incumbent}
use Rattle.yew_laws.specs.SearchTree.{SearchTree}
use Rattle.yew_laws.specs.Tree.{Member, paths as member_paths}
use Rattle.yew_laws.proofs.Folds.{fold-fits}
use Rattle.yew_laws.proofs.Members.{AllByRecursion-append, AllByRecursion-weaker}
use Rattle.yew_log.specs.Notes.{Note, Judgement, visits, visited_paths, visit_in}
use Rattle.yew_log.specs.Segment.{Segment, segment, entries, entries_in}
use Rattle.yew_walk.specs.declared.fault.SearchFault.{SearchFault}
use Rattle.yew_walk.specs.declared.keying.Keying.TheVariants.{Ranked}
use Rattle.yew_walk.specs.Hands.{best_after}
use Rattle.yew_walk.specs.LogViews.{LogView, log_after}
use Rattle.yew_walk.specs.WorkerLogs.{KeyedSegment, segments_of}
use Rattle.yew_walk.proofs.Sending.{log_after-append}
use Rattle.yew_walk.proofs.WorkerLogs.{goes_on-push}
use Rattle.yew_ranked.specs.ClaimSeats.{ClaimSeatView}
use Rattle.yew_ranked.specs.Stations.{best_along, AreRising, IsTaskWalk, AreTaskWalks, IsSameStation, IsWorking, IsRankedEnd, IsRankedReport}
use Rattle.yew_ranked.specs.Tasks.{Numbered, numbered_task}
use Rattle.yew_ranked.specs.Turns.{ranked_walk, IsMoved, IsTaskStep, IsBrokenStep, IsTurned}
use Rattle.yew_ranked.specs.declared.station.RankedReport.{RankedReport}
use Rattle.yew_ranked.specs.declared.station.RankedStation.{RankedStation}
use Rattle.yew_ranked.specs.declared.task.RankedTask.{RankedTask}
use Rattle.yew_ranked.specs.declared.worker.Turn.TheVariants.{Walked, Ended}

all-behind : {X : Type 0} (Q : X → Type 0) (xs ys : List X) → AllByRecursion Q (xs ++ ys) → AllByRecursion Q ys
all-behind Q [] ys a = a
all-behind Q (x ∷ xs) ys a = all-behind Q xs ys a.1

rising-push : (xs : List ℕ) (x : ℕ) → AreRising xs → AllByRecursion (λ y. y < x) xs → AreRising (xs ++ x ∷ [])
rising-push [] x r a = (tt, tt)
rising-push (y ∷ ys) x r a = (AllByRecursion-append (λ z. y < z) ys (x ∷ []) r.0 (a.0, tt), rising-push ys x r.1 a.1)

-- rising numbers from one number up to another are no more than those between
rising-few : (a n : ℕ) (xs : List ℕ) → AreRising xs → AllByRecursion (λ x. a ≤ x) xs → AllByRecursion (λ x. x < n) xs → length xs ≤ n - a
rising-few a n [] r l h = omega arith
rising-few a n (x ∷ xs) r l h = let e = rising-few (suc x) n xs r.1 (AllByRecursion-weaker (λ y. x < y) (λ y. suc x ≤ y) (λ y p. omega (arith, p)) xs r.0) h.1 in omega (arith, e, l.0, h.0)

from-zero : (xs : List ℕ) → AllByRecursion (λ x. 0 ≤ x) xs
from-zero [] = tt
from-zero (x ∷ xs) = (omega arith, from-zero xs)

-- the task at a place of the list
pub place-task : (items : List RankedTask) (place : ℕ) (task : RankedTask) → place < length items → task ≡ slice_index_or items place task
    → slice_get (map numbered_task items) place ≡ Some (numbered_task task)
place-task items place task within is =
    slice_get-map numbered_task items place ∙ ap (option_map numbered_task) (slice_get_read items (length items) place task refl within is)

or_true : (b c : Bool) → c ≡ true → (b || c) ≡ true
or_true true c is = refl
or_true false c is = is

best_along-push : (walks : List KeyedSegment) (walk : KeyedSegment) (incumbent : Incumbent)
    → best_along incumbent (walks ++ walk ∷ []) ≡ best_after walk.keying (best_along incumbent walks) (visits walk.segment.body)
best_along-push [] walk incumbent = refl
best_along-push (w ∷ ws) walk incumbent = best_along-push ws walk (best_after w.keying incumbent (visits w.segment.body))

segments-push : (walks : List KeyedSegment) (walk : KeyedSegment) → segments_of (walks ++ walk ∷ []) ≡ segments_of walks ++ walk.segment ∷ []
segments-push walks walk = map-append (λ (w : KeyedSegment). w.segment) walks (walk ∷ [])

walk-entries : (walks : List KeyedSegment) (walk : KeyedSegment) → entries (segments_of (walks ++ walk ∷ [])) ≡ entries (segments_of walks) ++ entries_in walk.segment
walk-entries walks walk = ap entries (segments-push walks walk) ∙ entries-push (segments_of walks) walk.segment

walk-visits : (walks : List KeyedSegment) (task : Numbered) (body : List Note)
    → visits (entries (segments_of (walks ++ ranked_walk task body ∷ []))) ≡ visits (entries (segments_of walks)) ++ visits body
walk-visits walks task body = ap (λ s. visits (entries s)) (segments-push walks (ranked_walk task body)) ∙ read-push visit_in (segments_of walks) task.path body refl

paths-append : {N : Type 0} (xs ys : List (Member N)) → member_paths (xs ++ ys) ≡ member_paths xs ++ member_paths ys
paths-append xs ys = map-append (λ (m : Member _). m.path) xs ys

visited-append : (xs ys : List Judgement) → map (λ (j : Judgement). j.path) (xs ++ ys) ≡ map (λ (j : Judgement). j.path) xs ++ map (λ (j : Judgement). j.path) ys
visited-append xs ys = map-append (λ (j : Judgement). j.path) xs ys

module _ {N : Type 0} (t : SearchTree N) (tasks : List Numbered) where
  walks-push : (places : List ℕ) (walks : List KeyedSegment) (place : ℕ) (walk : KeyedSegment) (task : Numbered) → AreTaskWalks t tasks places walks
      → slice_get tasks place ≡ Some task → IsTaskWalk t task walk → AreTaskWalks t tasks (places ++ place ∷ []) (walks ++ walk ∷ [])
  walks-push [] [] place walk task are there is = ((task, there, is), tt)
  walks-push [] (w ∷ ws) place walk task are there is = absurd are
  walks-push (p ∷ ps) [] place walk task are there is = absurd are
  walks-push (p ∷ ps) (w ∷ ws) place walk task are there is = (are.0, walks-push ps ws place walk task are.1 there is)

  -- the places of tasks are those of the list
  walks-within : (places : List ℕ) (walks : List KeyedSegment) → AreTaskWalks t tasks places walks → AllByRecursion (λ p. p < length tasks) places
  walks-within [] walks are = tt
  walks-within (p ∷ ps) [] are = absurd are
  walks-within (p ∷ ps) (w ∷ ws) are = (slice_get_within tasks p are.0.0 are.0.1, walks-within ps ws are.1)

module _ {N S R : Type 0} (t : SearchTree N) (join : S → S → S) (none : S) (of : N → ℕ → S) (seen : R → LogView) (tasks : List Numbered) where
  -- a worker that has walked nothing yet
  pub work-begins : {fits : S → Type 0} → IsTally fits join none → (a : RankedStation S R) → fits a.hand.sum → 65535 ≤ a.hand.path.space
      → IsWorking t join none of seen tasks a a
  work-begins tally a f room = record {
    places = [];
    walks = [];
    members = [];
    claims_are = sym (append-nil a.claims.claimed);
    rising = tt;
    are_walks = tt;
    goes = refl;
    log_is = refl;
    are_visited = record { paths_are = refl; there = tt };
    sum_is = sym (tally.comm a.hand.sum none f tally.none_fits ∙ tally.unit a.hand.sum f);
    best_is = refl;
    no_stop = refl;
    same = record { number = refl; best = refl; best_share = refl; claims = refl; claims_share = refl; stop = refl; stop_share = refl };
    space = room;
  }

  module _ (first before : RankedStation S R) (w : IsWorking t join none of seen tasks first before) where
    -- it has claimed no more places than there are tasks
    pub work-few : first.claims.claimed ≡ [] → length before.claims.claimed ≤ length tasks
    work-few begun =
        let few = rising-few 0 (length tasks) w.places w.rising (from-zero w.places) (walks-within t tasks w.places w.walks w.are_walks) in
        let same = ap length (w.claims_are ∙ ap (λ l. l ++ w.places) begun) in omega (arith, few, same)

    above-places : (place : ℕ) → All (λ x. x < place) before.claims.claimed → AllByRecursion (λ x. x < place) w.places
    above-places place above = all-behind (λ x. x < place) first.claims.claimed w.places
        (subst (AllByRecursion (λ x. x < place)) w.claims_are (recursion_from_All (λ x. x < place) before.claims.claimed above))

    module _ (stop : OpenSeatView) (stop_tasks : stop.tasks ≡ before.stop.tasks) (stop_share : stop.share ≡ before.stop.share) (stops : stop.stops ≡ before.stop.stops)
        (claims : ClaimSeatView) where
      -- it looked at the stop word, and claimed nothing
      looked-same : claims.claims ≡ before.claims.claims → claims.share ≡ before.claims.share → IsSameStation first (record before { stop = stop; claims = claims })
      looked-same claims_of claims_share = record {
        number = w.same.number;
        best = w.same.best;
        best_share = w.same.best_share;
        claims = claims_of ∙ w.same.claims;
        claims_share = claims_share ∙ w.same.claims_share;
        stop = stop_tasks ∙ w.same.stop;
        stop_share = stop_share ∙ w.same.stop_share;
      }

      module _ (place : ℕ) (claims_is : claims ≡ record before.claims { claimed = before.claims.claimed ++ place ∷ [] }) where
        claimed-same : IsSameStation first (record before { stop = stop; claims = claims })
        claimed-same = looked-same (ap (λ (c : ClaimSeatView). c.claims) claims_is) (ap (λ (c : ClaimSeatView). c.share) claims_is)

        moved-same : (after : RankedStation S R) → IsMoved t join none of seen (record before { stop = stop; claims = claims }) after → IsSameStation first after
        moved-same after m =
            let s = claimed-same in record {
              number = ap (λ (x : RankedStation S R). x.number) m.is_after ∙ s.number;
              best = m.best ∙ s.best;
              best_share = m.best_share ∙ s.best_share;
              claims = ap (λ (x : RankedStation S R). x.claims.claims) m.is_after ∙ s.claims;
              claims_share = ap (λ (x : RankedStation S R). x.claims.share) m.is_after ∙ s.claims_share;
              stop = ap (λ (x : RankedStation S R). x.stop.tasks) m.is_after ∙ s.stop;
              stop_share = ap (λ (x : RankedStation S R). x.stop.share) m.is_after ∙ s.stop_share;
            }

        -- the place is past the last task
        pub work-done : length tasks ≤ place → IsTurned t join none of seen tasks first (record before { stop = stop; claims = claims }) (Ended Done)
        work-done past = (
          claimed-same,
          record {
            now = before;
            last = place;
            working = w;
            past = past;
            after_is = ap (λ (c : ClaimSeatView). record before { stop = stop; claims = c }) claims_is;
            no_stop = stops;
            of_stop = stop_tasks;
            stop_share = stop_share;
          },
        )

        module _ (above : All (λ x. x < place) before.claims.claimed) (task : Numbered) (there : slice_get tasks place ≡ Some task) where
          -- the task at the place was walked
          pub work-more : {fits : S → Type 0} → IsTally fits join none → ((n : N) (depth : ℕ) → fits (of n depth)) → fits first.hand.sum → (after : RankedStation S R)
              → IsTaskStep t join none of seen task (record before { stop = stop; claims = claims }) after → IsWorking t join none of seen tasks first after
          work-more {fits} tally of_fits f after x =
              let seg = segment task.path x.body in
              let walk = ranked_walk task x.body in
              let member_fits : (m : Member N) → fits (of_member of m) = λ m. of_fits m.node (length m.path) in
              let visits_are = walk-visits w.walks task x.body in
              record {
                places = w.places ++ place ∷ [];
                walks = w.walks ++ walk ∷ [];
                members = w.members ++ x.members;
                claims_are = ap (λ (y : RankedStation S R). y.claims.claimed) x.moved.is_after ∙ (ap (λ (c : ClaimSeatView). c.claimed) claims_is
                    ∙ (ap (λ l. l ++ place ∷ []) w.claims_are ∙ append_assoc first.claims.claimed w.places (place ∷ [])));
                rising = rising-push w.places place w.rising (above-places place above);
                are_walks = walks-push t tasks w.places w.walks place walk task w.are_walks there x.is_walk;
                goes = goes_on-push t w.walks first.best before.best after.best walk w.goes x.goes;
                log_is = x.log_is ∙ (ap (λ l. log_after l (entries_in seg)) w.log_is
                    ∙ (sym (log_after-append (seen first.log) (entries (segments_of w.walks)) (entries_in seg)) ∙ ap (log_after (seen first.log)) (sym (walk-entries w.walks walk))));
                are_visited = record {
                  paths_are = paths-append w.members x.members ∙ (ap (λ l. l ++ member_paths x.members) w.are_visited.paths_are
                      ∙ (ap (λ l. visited_paths (entries (segments_of w.walks)) ++ l) x.are_visited.paths_are
                      ∙ (sym (visited-append (visits (entries (segments_of w.walks))) (visits x.body)) ∙ ap (map (λ (j : Judgement). j.path)) (sym visits_are))));
                  there = AllByRecursion-append _ w.members x.members w.are_visited.there x.are_visited.there;
                };
                sum_is = x.sum_is ∙ (ap (λ v. join v (fold_of join none (of_member of) x.members)) w.sum_is
                    ∙ (tally.assoc first.hand.sum _ _ f (fold-fits tally (of_member of) member_fits w.members) (fold-fits tally (of_member of) member_fits x.members)
                    ∙ ap (join first.hand.sum) (sym (fold-append tally (of_member of) member_fits w.members x.members))));
                best_is = x.best_is ∙ (ap (λ i. best_after (Ranked task.rank) i (visits x.body)) w.best_is ∙ sym (best_along-push w.walks walk _));
                no_stop = ap (λ (y : RankedStation S R). y.stop.stops) x.moved.is_after ∙ (stops ∙ w.no_stop);
                same = moved-same after x.moved;
                space = x.space;
              }

          -- its walk was refused, and it told all to stop
          pub work-broken : (fault : SearchFault) (after : RankedStation S R) (told : OpenSeatView) → told ≡ record after.stop { stops = after.stop.stops + 1 }
              → IsBrokenStep t join none of seen task fault (record before { stop = stop; claims = claims }) after
              → IsTurned t join none of seen tasks first (record after { stop = told }) (Ended (Fault fault))
          work-broken fault after told is x =
              let s = moved-same after x.moved in (
                record {
                  number = s.number;
                  best = s.best;
                  best_share = s.best_share;
                  claims = s.claims;
                  claims_share = s.claims_share;
                  stop = ap (λ (v : OpenSeatView). v.tasks) is ∙ s.stop;
                  stop_share = ap (λ (v : OpenSeatView). v.share) is ∙ s.stop_share;
                },
                record {
                  now = before;
                  working = w;
                  place = place;
                  task = task;
                  task_there = there;
                  above = above-places place above;
                  notes = x.notes;
                  ahead = x.ahead;
                  goes = x.goes;
                  log_is = x.log_is;
                  keeps = x.keeps;
                  keeps_ahead = x.keeps_ahead;
                  cause = x.cause;
                  one_stop = ap (λ (v : OpenSeatView). v.stops) is ∙ ap (λ n. n + 1) (ap (λ (y : RankedStation S R). y.stop.stops) x.moved.is_after ∙ (stops ∙ w.no_stop));
                },
              )

    -- it saw that all are told to stop
    pub work-stopped : (stop : OpenSeatView) (saw : Bool) → saw ≡ true → stop ≡ record before.stop { saw = before.stop.saw || saw }
        → IsTurned t join none of seen tasks first (record before { stop = stop }) (Ended Stopped)
    work-stopped stop saw shown is = (
      looked-same stop (ap (λ (v : OpenSeatView). v.tasks) is) (ap (λ (v : OpenSeatView). v.share) is) (ap (λ (v : OpenSeatView). v.stops) is) before.claims refl refl,
      record {
        saw = ap (λ (v : OpenSeatView). v.saw) is ∙ or_true before.stop.saw saw shown;
        no_stop = ap (λ (v : OpenSeatView). v.stops) is ∙ w.no_stop;
      },
    )

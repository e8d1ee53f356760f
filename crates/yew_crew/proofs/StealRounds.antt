-- The rounds of a worker that steals: what each of them leaves.
use Rattle.std.proofs.Common.{◌≡◌, ℕ, ◌+◌, ◌++◌, ◌∙◌, List, [], ◌∷◌, refl, sym, ap, subst, append-nil, append_assoc, arith, Bool}
use Rattle.std.specs.Prelude.{true, false, ◌||◌}
use Rattle.std.specs.List.{AllByRecursion, sum_by}
use Rattle.std.specs.List.Sorted.{IsPermutation}
use Rattle.std.proofs.lemmas.List.Sums.{sum_by-append, sum_by-cons}
use Rattle.yew_laws.specs.Bag.{SameBag}
use Rattle.yew_laws.specs.SearchTree.{SearchTree}
use Rattle.yew_laws.specs.Tasks.{Members}
use Rattle.yew_laws.specs.declared.problem.Task.{Task}
use Rattle.yew_laws.proofs.Bags.{same-refl, same-is, same-trans, same-map, same-permutation}
use Rattle.yew_log.specs.Groups.{Part}
use Rattle.yew_log.specs.Lawful.{tasks_of}
use Rattle.yew_log.specs.Segment.{Segment}
use Rattle.yew_mail.specs.Seats.{SeatView}
use Rattle.yew_mail.specs.declared.view.Found.{Found}
use Rattle.yew_stack.specs.Splits.{paths_of}
use Rattle.yew_walk.specs.LogViews.{LogView}
use Rattle.yew_walk.specs.declared.fault.SearchFault.{SearchFault}
use Rattle.yew_crew.specs.Idling.{AreQuiet, IsIdleStep, IsOver}
use Rattle.yew_crew.specs.Looks.{busy_looks, ends_closed, HasLooked}
use Rattle.yew_crew.specs.OpenSeats.{OpenId, OpenSeatView}
use Rattle.yew_crew.specs.Outlets.{HandingView}
use Rattle.yew_crew.specs.Reports.{IsEnd, IsReport}
use Rattle.yew_crew.specs.Rounds.{thief_station, IsRound}
use Rattle.yew_crew.specs.Stations.{Searched, searched, IfSteal, IsSameStation}
use Rattle.yew_crew.specs.Working.{IsWorking, IsBrokenStep}
use Rattle.yew_crew.specs.declared.coord.Coord.{Coord}
use Rattle.yew_crew.specs.declared.coord.Coord.TheVariants.{Depth, Budget, Steal}
use Rattle.yew_crew.specs.declared.station.End.{End}
use Rattle.yew_crew.specs.declared.station.End.TheVariants.{Done, Stopped, Fault}
use Rattle.yew_crew.specs.declared.station.Station.{Station}
use Rattle.yew_crew.specs.declared.station.Report.{Report}
use Rattle.yew_crew.specs.declared.steal_worker.Round.{Round}
use Rattle.yew_crew.specs.declared.steal_worker.Round.TheVariants.{On, Idle, Ended}
use Rattle.yew_crew.specs.declared.steal_worker.Thief.{Thief}
use Rattle.yew_crew.proofs.BrokenSteps.{work-broken}
use Rattle.yew_crew.proofs.LookSteps.{busy-append, ends-append}
use Rattle.yew_crew.proofs.SpawnStep.{paths-grow}
use Rattle.yew_crew.proofs.WorkDone.{work-done}
use Rattle.yew_crew.proofs.WorkSteps.{same-twice}
use Rattle.yew_crew.proofs.WorkStopped.{work-stopped}

pub or_true : (b c : Bool) → c ≡ true → (b || c) ≡ true
or_true true c is = refl
or_true false c is = is

paths-append : {N : Type 0} (xs ys : List (Task N)) → paths_of (xs ++ ys) ≡ paths_of xs ++ paths_of ys
paths-append [] ys = refl
paths-append (x ∷ xs) ys = ap (λ l. x.path.numbers ∷ l) (paths-append xs ys)

-- a gift in the other order, as paths that are still to be walked
pub gift-bag : {N : Type 0} (tasks others : List (Task N)) → IsPermutation tasks others → SameBag (paths_of tasks ++ []) (paths_of others)
gift-bag tasks others p = same-trans (same-is (append-nil (paths_of tasks))) (same-map (λ (task : Task _). task.path.numbers) (same-permutation tasks others p))

-- the last task of a list, and the others
pub last-bag : {N : Type 0} (all less : List (Task N)) (task : Task N) → all ≡ less ++ task ∷ [] → SameBag (paths_of all) (task.path.numbers ∷ paths_of less)
last-bag all less task is = record {
  weighs = λ h. (
      let a = ap (λ l. sum_by h l) (ap paths_of is ∙ paths-append less (task ∷ [])) in let b = sum_by-append h (paths_of less) (task.path.numbers ∷ []) in
      let c = sum_by-cons h task.path.numbers (paths_of less) in let d = sum_by-cons h task.path.numbers [] in omega arith);
}

pub front-all : {X : Type 0} (Q : X → Type 0) (xs : List X) (x : X) → AllByRecursion Q (xs ++ x ∷ []) → AllByRecursion Q xs × Q x
front-all Q [] x a = (tt, a.0)
front-all Q (y ∷ ys) x a = let r = front-all Q ys x a.1 in ((a.0, r.0), r.1)

-- quiet entries are none of the looks of segments
looked-quiet : {N : Type 0} (t : SearchTree N) (part : Part) (entries more : List Found) (segments : List Segment) → HasLooked t part entries segments → AreQuiet more → HasLooked t part (entries ++ more) segments
looked-quiet t part entries more segments h q = record {
  looks = h.looks;
  each = h.each;
  busy = busy-append false entries more ∙ (ap (λ e. busy_looks false entries ++ busy_looks e more) h.settled ∙ (ap (λ l. busy_looks false entries ++ l) q.none_busy ∙ (append-nil (busy_looks false entries) ∙ h.busy)));
  settled = ends-append false entries more ∙ (ap (λ e. ends_closed e more) h.settled ∙ q.settled);
}

quiet-looks : {N : Type 0} (t : SearchTree N) (coord : Coord) (segments : List Segment) (first before after entries : List Found) → after ≡ before ++ entries → AreQuiet entries
    → IfSteal coord (λ part. (found : List Found) × (before ≡ first ++ found) × HasLooked t part found segments)
    → IfSteal coord (λ part. (found : List Found) × (after ≡ first ++ found) × HasLooked t part found segments)
quiet-looks t (Depth d) segments first before after entries is q l = tt
quiet-looks t (Budget b) segments first before after entries is q l = tt
quiet-looks t (Steal chunk) segments first before after entries is q l =
    (l.0 ++ entries, is ∙ (ap (λ f. f ++ entries) l.1 ∙ append_assoc first l.0 entries), looked-quiet t _ l.0 entries segments l.2 q)

module _ {N S R : Type 0} (s : Searched S R N) where
  -- what is still to be walked, in another order
  pub work-order : (rest others : List (List ℕ)) (first now : Station N S R) → SameBag rest others → IsWorking s rest first now → IsWorking s others first now
  work-order rest others first now bag w = record {
    segments = w.segments;
    members = w.members;
    took = w.took;
    put = w.put;
    got = w.got;
    given = w.given;
    walks = w.walks;
    moved = w.moved;
    taken_are = record {
      weighs = λ h. (let a = w.taken_are.weighs h in let b = bag.weighs h in let c = sum_by-append h (tasks_of w.segments) rest in let d = sum_by-append h (tasks_of w.segments) others in omega arith);
    };
    spawned_are = w.spawned_are;
    handed_are = w.handed_are;
    goes = w.goes;
    log_is = w.log_is;
    are_visited = w.are_visited;
    sum_is = w.sum_is;
    best_is = w.best_is;
    made_is = w.made_is;
    ended_is = w.ended_is;
    no_stop = w.no_stop;
    knows = w.knows;
    same = w.same;
    space = w.space;
    looks = w.looks;
  }

  -- after a round the worker goes on, where it has not come to its end
  pub goes-on : (rest : List (List ℕ)) (first now : Station N S R) (round : Round) → ((end : End) → round ≡ Ended end → ⊥) → IsRound s rest first now round → IsWorking s rest first now
  goes-on rest first now On other is = is
  goes-on rest first now Idle other is = is
  goes-on rest first now (Ended end) other is = absurd (other end refl)

module _ {P N S R : Type 0} (s : Searched S R N) where
  -- a worker that has got these tasks, and has still to walk them
  pub work-idle : (tasks : List (Task N)) (rest : List (List ℕ)) (first : Station N S R) (thief : Thief (HandingView P N) N S R) (outlet : HandingView P N) → IsIdleStep tasks thief.outlet outlet
      → IsWorking s rest first (thief_station thief) → IsWorking s (paths_of tasks ++ rest) first (thief_station (record thief { outlet = outlet }))
  work-idle tasks rest first thief outlet i w =
      let Mails : Type 0 = SeatView (Task N) (Members N) in
      record {
        segments = w.segments;
        members = w.members;
        took = w.took;
        put = w.put;
        got = w.got ++ paths_of tasks;
        given = w.given;
        walks = w.walks;
        moved = record {
          took_is = w.moved.took_is;
          put_is = w.moved.put_is;
          got_is = record {
            weighs = λ h. (
                let a = (paths-grow thief.outlet.seat.got outlet.seat.got tasks (paths_of tasks) (same-is (ap (λ (m : Mails). m.got) i.seat)) (same-refl (paths_of tasks))).weighs h in
                let b = w.moved.got_is.weighs h in
                let c = sum_by-append h (paths_of thief.outlet.seat.got) (paths_of tasks) in
                let d = sum_by-append h (paths_of first.mail.got) w.got in
                let e = sum_by-append h (paths_of first.mail.got) (w.got ++ paths_of tasks) in
                let f = sum_by-append h w.got (paths_of tasks) in omega arith);
          };
          given_is = same-trans (same-is (ap (λ (m : Mails). paths_of m.given) i.seat)) w.moved.given_is;
        };
        taken_are = record {
          weighs = λ h. (
              let a = w.taken_are.weighs h in
              let b = sum_by-append h w.took w.got in
              let c = sum_by-append h w.took (w.got ++ paths_of tasks) in
              let d = sum_by-append h w.got (paths_of tasks) in
              let e = sum_by-append h (tasks_of w.segments) rest in
              let f = sum_by-append h (tasks_of w.segments) (paths_of tasks ++ rest) in
              let g = sum_by-append h (paths_of tasks) rest in omega arith);
        };
        spawned_are = w.spawned_are;
        handed_are = w.handed_are;
        goes = w.goes;
        log_is = w.log_is;
        are_visited = w.are_visited;
        sum_is = w.sum_is;
        best_is = w.best_is;
        made_is = ap (λ (t : OpenSeatView). t.made) i.loaded ∙ w.made_is;
        ended_is = ap (λ (t : OpenSeatView). t.ended) i.loaded ∙ w.ended_is;
        no_stop = ap (λ (t : OpenSeatView). t.stops) i.loaded ∙ w.no_stop;
        knows = λ k. ap (λ (t : OpenSeatView). t.knows) i.loaded ∙ w.knows k;
        same = record {
          number = w.same.number;
          best = w.same.best;
          best_share = w.same.best_share;
          pool = w.same.pool;
          pass_number = w.same.pass_number;
          pass_share = w.same.pass_share;
          pass_members = w.same.pass_members;
          mail = ap (λ (m : Mails). m.mail) i.seat ∙ w.same.mail;
          mail_share = ap (λ (m : Mails). m.share) i.seat ∙ w.same.mail_share;
          mail_numbers = ap (λ (m : Mails). m.numbers) i.seat ∙ w.same.mail_numbers;
          mail_members = ap (λ (m : Mails). m.members) i.seat ∙ w.same.mail_members;
          tasks = ap (λ (t : OpenSeatView). t.tasks) i.loaded ∙ w.same.tasks;
          tasks_share = ap (λ (t : OpenSeatView). t.share) i.loaded ∙ w.same.tasks_share;
        };
        space = w.space;
        looks = quiet-looks s.tree s.coord w.segments first.mail.found thief.outlet.seat.found outlet.seat.found i.entries (ap (λ (m : Mails). m.found) i.seat) i.quiet w.looks;
      }

module _ {P N S R : Type 0} (t : SearchTree N) (join : S → S → S) (none : S) (of : N → ℕ → S) (seen : R → LogView) (coord : Coord) (gap : ℕ) where
  -- a worker that has come to its end with nothing to walk
  pub work-over : (end : End) (first : Station N S R) (thief : Thief (HandingView P N) N S R) (outlet : HandingView P N) → IsIdleStep [] thief.outlet outlet → IsOver thief.outlet.tasks outlet.tasks end
      → IsWorking (searched t join none of seen coord gap) [] first (thief_station thief)
      → IsRound (searched t join none of seen coord gap) [] first (thief_station (record thief { outlet = outlet })) (Ended end)
  work-over Done first thief outlet i over w =
      let s : Searched S R N = searched t join none of seen coord gap in
      let now = work-idle s [] [] first thief outlet i w in (
        now.same,
        work-done t join none of seen coord gap first (thief_station (record thief { outlet = outlet })) now over.0 (λ k. over.1 (w.knows k))
            (λ whole. over.2 (w.same.tasks_share ∙ (whole ∙ sym (ap (λ (x : OpenId). x.seats) w.same.tasks)))),
      )
  work-over Stopped first thief outlet i over w =
      let s : Searched S R N = searched t join none of seen coord gap in
      let now = work-idle s [] [] first thief outlet i w in
      (now.same, work-stopped t join none of seen coord gap [] first (thief_station (record thief { outlet = outlet })) now over)
  work-over (Fault fault) first thief outlet i over w = absurd over

  -- a worker that saw that all are told to stop, whatever it had to walk
  pub work-told : (rest : List (List ℕ)) (first : Station N S R) (thief : Thief (HandingView P N) N S R) (outlet : HandingView P N) → IsIdleStep [] thief.outlet outlet → outlet.tasks.saw ≡ true
      → IsWorking (searched t join none of seen coord gap) rest first (thief_station thief)
      → IsRound (searched t join none of seen coord gap) rest first (thief_station (record thief { outlet = outlet })) (Ended Stopped)
  work-told rest first thief outlet i saw w =
      let s : Searched S R N = searched t join none of seen coord gap in
      let now = work-idle s [] rest first thief outlet i w in
      (now.same, work-stopped t join none of seen coord gap rest first (thief_station (record thief { outlet = outlet })) now saw)

  -- a worker whose walk was refused, and which told all to stop
  pub work-faulty : (rest : List (List ℕ)) (path : List ℕ) (fault : SearchFault) (first : Station N S R) (before after : Thief (HandingView P N) N S R) (outlet : HandingView P N)
      → outlet ≡ record after.outlet { tasks = record after.outlet.tasks { stops = after.outlet.tasks.stops + 1 } }
      → IsWorking (searched t join none of seen coord gap) (path ∷ rest) first (thief_station before)
      → IsBrokenStep (searched t join none of seen coord gap) path fault (thief_station before) (thief_station after)
      → IsRound (searched t join none of seen coord gap) rest first (thief_station (record after { outlet = outlet })) (Ended (Fault fault))
  work-faulty rest path fault first before after outlet is w b =
      let s : Searched S R N = searched t join none of seen coord gap in
      let same = same-twice first (thief_station before) (thief_station after) w.same b.same in
      subst (λ (o : HandingView P N). IsRound s rest first (thief_station (record after { outlet = o })) (Ended (Fault fault))) (sym is) (
        record {
          number = same.number;
          best = same.best;
          best_share = same.best_share;
          pool = same.pool;
          pass_number = same.pass_number;
          pass_share = same.pass_share;
          pass_members = same.pass_members;
          mail = same.mail;
          mail_share = same.mail_share;
          mail_numbers = same.mail_numbers;
          mail_members = same.mail_members;
          tasks = same.tasks;
          tasks_share = same.tasks_share;
        },
        work-broken t join none of seen coord gap path fault first (thief_station before) (thief_station after) (record after.outlet.tasks { stops = after.outlet.tasks.stops + 1 }) w b refl,
      )

module _ {N S R : Type 0} (t : SearchTree N) (join : S → S → S) (none : S) (of : N → ℕ → S) (seen : R → LogView) (coord : Coord) (gap : ℕ) where
  -- the report of a worker that has come to its end
  pub end-reported : (first now : Station N S R) (end : End) (report : Report N S R) → report ≡ record { station = now; end = end }
      → IsSameStation first now → IsEnd (searched t join none of seen coord gap) first now end → IsReport (searched t join none of seen coord gap) first report
  end-reported first now end report is same ends = subst (IsReport (searched t join none of seen coord gap) first) (sym is) (record { same = same; ends = ends })

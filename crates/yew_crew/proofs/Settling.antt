-- A crew that has worked is settled: its seats and passes are all of them, of the shared objects, with the whole shares.
use Rattle.std.proofs.Common.{◌≡◌, ℕ, ◌+◌, ◌<◌, ◌||◌, List, [], ◌∷◌, ◌∙◌, All, length, refl, sym, ap, subst, arith}
use Rattle.std.specs.List.{AllByRecursion, sum_by}
use Rattle.std.proofs.lemmas.List.Elements.{All-from_recursion}
use Rattle.std.proofs.lemmas.List.Sums.{sum_by-cons}
use Rattle.yew_best.specs.Seats.{SeatView, joined_seat}
use Rattle.yew_laws.specs.SearchTree.{SearchTree}
use Rattle.yew_laws.specs.Tasks.{Members, members_of}
use Rattle.yew_laws.specs.declared.problem.Task.{Task}
use Rattle.yew_laws.proofs.Members.{AllByRecursion-map}
use Rattle.yew_mail.specs.Seats.{SeatView as MailSeatView}
use Rattle.yew_pool.specs.Passes.{PassView}
use Rattle.yew_walk.specs.LogViews.{LogView}
use Rattle.yew_crew.specs.Crews.{IsSeated, AreReports, stations_of, best_with, tasks_with}
use Rattle.yew_crew.specs.Joining.{passes_of, seats_of}
use Rattle.yew_crew.specs.OpenSeats.{OpenSeatView}
use Rattle.yew_crew.specs.Starting.{HasWorked}
use Rattle.yew_crew.specs.Stations.{searched}
use Rattle.yew_crew.specs.declared.coord.Coord.{Coord}
use Rattle.yew_crew.specs.declared.station.Report.{Report}
use Rattle.yew_crew.specs.declared.station.Shared.{Shared}
use Rattle.yew_crew.specs.declared.station.Station.{Station}
use Rattle.yew_crew.proofs.EndedCrew.{all-after, reports-after, shares-after}

module _ {N S R : Type 0} where
  -- the shares of joined seats are added up
  tasks-share : (rest : List (Station N S R)) (seat : OpenSeatView) → (tasks_with seat rest).share ≡ seat.share + sum_by (λ (x : Station N S R). x.tasks.share) rest
  tasks-share [] seat = omega arith
  tasks-share (s ∷ ss) seat =
      let other = s.tasks in
      let more = tasks-share ss (record seat { share = seat.share + other.share; made = seat.made + other.made; ended = seat.ended + other.ended; knows = seat.knows || other.knows; stops = seat.stops + other.stops; saw = seat.saw || other.saw }) in
      let c = sum_by-cons (λ (x : Station N S R). x.tasks.share) s ss in omega arith

  best-share : (rest : List (Station N S R)) (seat : SeatView) → (best_with seat rest).share ≡ seat.share + sum_by (λ (x : Station N S R). x.best.share) rest
  best-share [] seat = omega arith
  best-share (s ∷ ss) seat =
      let more = best-share ss (joined_seat seat s.best) in
      let c = sum_by-cons (λ (x : Station N S R). x.best.share) s ss in omega arith

  passes-share : (stations : List (Station N S R)) → sum_by (λ (p : PassView (Task N) (Members N)). p.share) (passes_of stations) ≡ sum_by (λ (x : Station N S R). x.pool.share) stations
  passes-share [] = refl
  passes-share (s ∷ ss) =
      let a = sum_by-cons (λ (p : PassView (Task N) (Members N)). p.share) s.pool (passes_of ss) in let b = sum_by-cons (λ (x : Station N S R). x.pool.share) s ss in let r = passes-share ss in omega arith

  seats-share : (stations : List (Station N S R)) → sum_by (λ (m : MailSeatView (Task N) (Members N)). m.share) (seats_of stations) ≡ sum_by (λ (x : Station N S R). x.mail.share) stations
  seats-share [] = refl
  seats-share (s ∷ ss) =
      let a = sum_by-cons (λ (m : MailSeatView (Task N) (Members N)). m.share) s.mail (seats_of ss) in let b = sum_by-cons (λ (x : Station N S R). x.mail.share) s ss in let r = seats-share ss in omega arith

module _ {N S R : Type 0} (t : SearchTree N) (join : S → S → S) (none : S) (of : N → ℕ → S) (seen : R → LogView) (coord : Coord) (gap : ℕ) (fits : S → Type 0) (shared : Shared N) (workers : ℕ)
    (reports : List (Report N S R)) (w : HasWorked (searched t join none of seen coord gap) fits (members_of t) workers shared reports) where
  pub all-seated : AllByRecursion (λ (r : Report N S R). IsSeated shared.best shared.tasks r.station) reports
  all-seated = reports-after t join none of seen coord gap shared (IsSeated shared.best shared.tasks)
      (λ place made put b a is same. record {
        of_best = same.best ∙ ap (λ (v : SeatView). v.best) is.best_is;
        of_tasks = same.tasks ∙ ap (λ (v : OpenSeatView). v.tasks) is.tasks_is;
      })
      workers w.begun reports w.crew w.are_reports

  pub some-reports : 0 < length reports
  some-reports = by reports w
    where
      by : (rs : List (Report N S R)) → HasWorked (searched t join none of seen coord gap) fits (members_of t) workers shared rs → 0 < length rs
      by [] v = absurd (subst (λ (l : List (Station N S R)). AreReports (searched t join none of seen coord gap) l []) v.crew.stands v.are_reports)
      by (r ∷ rs) v = omega arith

  pub all-passes : All (λ (p : PassView (Task N) (Members N)). p.pool ≡ shared.pool) (passes_of (stations_of reports))
  all-passes = All-from_recursion (λ (p : PassView (Task N) (Members N)). p.pool ≡ shared.pool) (passes_of (stations_of reports))
      (AllByRecursion-map (λ (p : PassView (Task N) (Members N)). p.pool ≡ shared.pool) (λ (x : Station N S R). x.pool) (stations_of reports)
      (all-after t join none of seen coord gap shared (λ x. x.pool.pool ≡ shared.pool) (λ place made put b a is same. same.pool ∙ ap (λ (p : PassView (Task N) (Members N)). p.pool) is.pool_is) workers w.begun reports w.crew w.are_reports))

  pub whole-passes : sum_by (λ (p : PassView (Task N) (Members N)). p.share) (passes_of (stations_of reports)) ≡ length shared.pool.deques
  whole-passes = passes-share (stations_of reports)
      ∙ (shares-after t join none of seen coord gap shared (λ x. x.pool.share) (λ place made put b a is same. same.pass_share ∙ ap (λ (p : PassView (Task N) (Members N)). p.share) is.pool_is) workers w.begun reports w.crew w.are_reports
      ∙ sym w.crew.deques)

  pub all-seats : AllByRecursion (λ (m : MailSeatView (Task N) (Members N)). m.mail ≡ shared.mail) (seats_of (stations_of reports))
  all-seats = AllByRecursion-map (λ (m : MailSeatView (Task N) (Members N)). m.mail ≡ shared.mail) (λ (x : Station N S R). x.mail) (stations_of reports)
      (all-after t join none of seen coord gap shared (λ x. x.mail.mail ≡ shared.mail)
      (λ place made put b a is same. same.mail ∙ ap (λ (m : MailSeatView (Task N) (Members N)). m.mail) is.mail_is) workers w.begun reports w.crew w.are_reports)

  pub whole-seats : sum_by (λ (m : MailSeatView (Task N) (Members N)). m.share) (seats_of (stations_of reports)) ≡ shared.mail.workers
  whole-seats = seats-share (stations_of reports)
      ∙ (shares-after t join none of seen coord gap shared (λ x. x.mail.share) (λ place made put b a is same. same.mail_share ∙ ap (λ (m : MailSeatView (Task N) (Members N)). m.share) is.mail_is) workers w.begun reports w.crew w.are_reports
      ∙ sym w.crew.mailboxes)

  module _ (first : Report N S R) (rest : List (Report N S R)) (stands : reports ≡ first ∷ rest) where
    -- the joined seats have the whole shares
    pub whole-tasks : (tasks_with first.station.tasks (stations_of rest)).share ≡ shared.tasks.seats
    whole-tasks =
        let a = tasks-share (stations_of rest) first.station.tasks in
        let b = shares-after t join none of seen coord gap shared (λ x. x.tasks.share) (λ place made put b a is same. same.tasks_share ∙ ap (λ (v : OpenSeatView). v.share) is.tasks_is) workers w.begun reports w.crew w.are_reports in
        let c = ap (λ (l : List (Report N S R)). sum_by (λ (x : Station N S R). x.tasks.share) (stations_of l)) stands in
        let d = sum_by-cons (λ (x : Station N S R). x.tasks.share) first.station (stations_of rest) in let e = w.crew.open_seats in omega arith

    pub whole-best : (best_with first.station.best (stations_of rest)).share ≡ shared.best.seats
    whole-best =
        let a = best-share (stations_of rest) first.station.best in
        let b = shares-after t join none of seen coord gap shared (λ x. x.best.share) (λ place made put b a is same. same.best_share ∙ ap (λ (v : SeatView). v.share) is.best_is) workers w.begun reports w.crew w.are_reports in
        let c = ap (λ (l : List (Report N S R)). sum_by (λ (x : Station N S R). x.best.share) (stations_of l)) stands in
        let d = sum_by-cons (λ (x : Station N S R). x.best.share) first.station (stations_of rest) in let e = w.crew.best_seats in omega arith

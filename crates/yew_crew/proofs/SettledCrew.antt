-- What the reports of a crew came to is what its end asks: the seat of all, the first worker's hand and log, sound tasks that were left, and the fault that is named.
use Rattle.std.proofs.Common.{◌≡◌, ℕ, ◌<◌, ◌≤◌, ◌^◌, List, [], ◌∷◌, ◌++◌, ◌∙◌, IsSome, Some, None, All, length, get_or, set, refl, sym, ap, subst}
use Rattle.std.specs.List.{AllByRecursion}
use Rattle.std.proofs.lemmas.List.Elements.{recursion_from_All, All-from_recursion}
use Rattle.yew_best.specs.Seats.{BestId, SeatView}
use Rattle.yew_laws.specs.Fold.{IsTally}
use Rattle.yew_laws.specs.SearchTree.{SearchTree}
use Rattle.yew_laws.specs.Tasks.{Members, members_of, IsAmong}
use Rattle.yew_laws.specs.Tree.{IsRanked, IsBounded}
use Rattle.yew_laws.specs.declared.problem.Task.{Task}
use Rattle.yew_laws.proofs.Members.{AllByRecursion-append, AllByRecursion-map}
use Rattle.yew_mail.specs.Closing.{AreFor}
use Rattle.yew_mail.specs.Seats.{SeatView as MailSeatView}
use Rattle.yew_pool.specs.Passes.{PassView}
use Rattle.yew_walk.specs.LogViews.{LogView}
use Rattle.yew_walk.specs.declared.fault.SearchFault.{SearchFault}
use Rattle.yew_walk.specs.declared.hand.Hand.{Hand}
use Rattle.yew_crew.specs.CrewSearch.{IsCrewFault}
use Rattle.yew_crew.specs.Crews.{AreReports, IsSeated, stations_of, best_with}
use Rattle.yew_crew.specs.Ending.{IsSettled}
use Rattle.yew_crew.specs.Joining.{fault_in, passes_of, seats_of, hands_of, logs_of}
use Rattle.yew_crew.specs.Resting.{IsAllLeft}
use Rattle.yew_crew.specs.Starting.{HasWorked}
use Rattle.yew_crew.specs.Stations.{searched, skeleton_of}
use Rattle.yew_crew.specs.declared.coord.Coord.{Coord}
use Rattle.yew_crew.specs.declared.ending.Settled.{Settled}
use Rattle.yew_crew.specs.declared.station.Report.{Report}
use Rattle.yew_crew.specs.declared.station.Shared.{Shared}
use Rattle.yew_crew.specs.declared.station.Station.{Station}
use Rattle.yew_crew.proofs.CrewFaults.{crew-fault}
use Rattle.yew_crew.proofs.EndedCrew.{AreOver, all-after, done}
use Rattle.yew_crew.proofs.Joins.{all_behind}
use Rattle.yew_crew.proofs.Settling.{all-seated, whole-best}

best-kept : {N S R : Type 0} (rest : List (Station N S R)) (seat : SeatView) → (best_with seat rest).best ≡ seat.best
best-kept [] seat = refl
best-kept (s ∷ ss) seat = best-kept ss _

module _ {N S R : Type 0} (t : SearchTree N) (join : S → S → S) (none : S) (of : N → ℕ → S) (seen : R → LogView) (coord : Coord) (gap : ℕ) (fits : S → Type 0) (shared : Shared N) (workers : ℕ)
    (reports : List (Report N S R)) (w : HasWorked (searched t join none of seen coord gap) fits (members_of t) workers shared reports) (settled : Settled N S R) (is : IsSettled shared reports settled) where
  pub seat-of : settled.seat.best ≡ settled.best
  seat-of =
      ap (λ (v : SeatView). v.best) is.seat_is
      ∙ (best-kept (stations_of is.rest) is.first.station.best
      ∙ ((all_behind (λ (r : Report N S R). IsSeated shared.best shared.tasks r.station) reports is.first is.rest is.stands (all-seated t join none of seen coord gap fits shared workers reports w)).0.of_best ∙ sym is.word_is))

  pub seat-whole : settled.seat.share ≡ settled.best.seats
  seat-whole =
      ap (λ (v : SeatView). v.share) is.seat_is
      ∙ (whole-best t join none of seen coord gap fits shared workers reports w is.first is.rest is.stands ∙ ap (λ (b : BestId). b.seats) (sym is.word_is))

  hands-are : settled.hands.items ≡ is.first.station.hand ∷ hands_of (stations_of is.rest)
  hands-are = is.hands ∙ ap (λ (l : List (Report N S R)). hands_of (stations_of l)) is.stands

  logs-are : settled.logs.items ≡ is.first.station.log ∷ logs_of (stations_of is.rest)
  logs-are = is.logs ∙ ap (λ (l : List (Report N S R)). logs_of (stations_of l)) is.stands

  pub first-hand : (h : Hand S) → h ≡ get_or settled.hands.items 0 h → h ≡ is.first.station.hand
  first-hand h e = e ∙ ap (λ (l : List (Hand S)). get_or l 0 h) hands-are

  pub first-log : (r : R) → r ≡ get_or settled.logs.items 0 r → r ≡ is.first.station.log
  first-log r e = e ∙ ap (λ (l : List R). get_or l 0 r) logs-are

  pub hands-after : (h : Hand S) → set settled.hands.items 0 h ≡ h ∷ hands_of (stations_of is.rest)
  hands-after h = ap (λ (l : List (Hand S)). set l 0 h) hands-are

  pub logs-after : (r : R) → set settled.logs.items 0 r ≡ r ∷ logs_of (stations_of is.rest)
  logs-after r = ap (λ (l : List R). set l 0 r) logs-are

  pub hands-fit : (h : Hand S) → fits h.sum → AllByRecursion (λ (x : Hand S). fits x.sum) (set settled.hands.items 0 h)
  hands-fit h f =
      let others = (all_behind (λ (r : Report N S R). fits r.station.hand.sum) reports is.first is.rest is.stands w.fit).1 in
      subst (AllByRecursion (λ (x : Hand S). fits x.sum)) (sym (hands-after h)) (
        f,
        AllByRecursion-map (λ (x : Hand S). fits x.sum) (λ (x : Station N S R). x.hand) (stations_of is.rest)
            (AllByRecursion-map (λ (x : Station N S R). fits x.hand.sum) (λ (r : Report N S R). r.station) is.rest others),
      )

  pub left-sound : AllByRecursion (IsAmong (members_of t)) settled.left.items
  left-sound =
      let all = is.all_left in
      let passes : All (λ (p : PassView (Task N) (Members N)). p.members ≡ Some (members_of t)) (passes_of (stations_of reports)) =
      All-from_recursion (λ (p : PassView (Task N) (Members N)). p.members ≡ Some (members_of t)) (passes_of (stations_of reports))
      (AllByRecursion-map (λ (p : PassView (Task N) (Members N)). p.members ≡ Some (members_of t)) (λ (x : Station N S R). x.pool) (stations_of reports)
      (all-after t join none of seen coord gap shared (λ x. x.pool.members ≡ Some (members_of t))
      (λ place made put b a i same. same.pass_members ∙ ap (λ (p : PassView (Task N) (Members N)). p.members) i.pool_is) workers w.begun reports w.crew w.are_reports)) in
      let seats : AreFor (members_of t) (seats_of (stations_of reports)) =
      AllByRecursion-map (λ (m : MailSeatView (Task N) (Members N)). m.members ≡ Some (members_of t)) (λ (x : Station N S R). x.mail) (stations_of reports)
      (all-after t join none of seen coord gap shared (λ x. x.mail.members ≡ Some (members_of t))
      (λ place made put b a i same. same.mail_members ∙ ap (λ (m : MailSeatView (Task N) (Members N)). m.members) i.mail_is) workers w.begun reports w.crew w.are_reports) in
      let left : settled.left.items ≡ all.pool_left.rest ++ all.mail_left.rest = all.mail_left.appended ∙ ap (λ (l : List (Task N)). l ++ all.mail_left.rest) all.pool_left.appended in
      subst (AllByRecursion (IsAmong (members_of t))) (sym left)
      (AllByRecursion-append (IsAmong (members_of t)) all.pool_left.rest all.mail_left.rest
      (recursion_from_All (IsAmong (members_of t)) all.pool_left.rest (all.pool_left.sound_rest (members_of t) passes)) (all.mail_left.are_sound (members_of t) seats))

  -- without a fault, and with as many tasks left as a list in memory has, all is over
  pub is-over : settled.fault ≡ None → length settled.left.items < 2 ^ 64 → AreOver t join none of seen coord gap shared workers w.begun is.first is.rest settled.left.items is.word
  is-over calm few = record {
    crew = w.crew;
    are = subst (λ (l : List (Report N S R)). AreReports (searched t join none of seen coord gap) w.begun l) is.stands w.are_reports;
    none_faulty = sym (ap (λ (l : List (Report N S R)). fault_in None l) is.stands) ∙ (sym is.fault ∙ calm);
    exact = is.exact;
    all_left = subst (λ (l : List (Report N S R)). IsAllLeft (passes_of (stations_of l)) (seats_of (stations_of l)) settled.left.items) is.stands is.all_left;
    few = few;
  }

  module _ {sound : N → Type 0} (ranked : IsRanked sound t.children t.rank) (bounded : IsBounded sound t.children t.worth t.bound) (root_sound : sound t.root) where
    pub settled-fault : (tells : Type 0) (fault : SearchFault) → settled.fault ≡ Some fault → ((log : R) → IsSome (seen log).told → tells) → IsCrewFault t gap (skeleton_of coord) workers tells fault
    settled-fault tells fault e telling =
        crew-fault t ranked bounded root_sound join none of seen coord gap shared workers tells w.begun reports fault settled.left.items w.crew w.are_reports (sym is.fault ∙ e) is.all_left telling

    -- the hand of a worker that came to its end has its space
    pub first-space : (tally : IsTally fits join none) → ((n : N) (depth : ℕ) → fits (of n depth)) → settled.fault ≡ None → length settled.left.items < 2 ^ 64 → 65535 ≤ is.first.station.hand.path.space
    first-space tally of_fits calm few = (done t join none of seen coord gap shared workers w.begun is.first is.rest settled.left.items is.word (is-over calm few) ranked bounded root_sound tally of_fits).hand.space

-- What contracts say of the reports of all workers of a crew.
use Rattle.std.specs.Prelude.{◌≡◌, ℕ, ◌+◌, ◌||◌, List, [], ◌∷◌, ◌++◌, map}
use Rattle.std.specs.List.{sum_by, flat_map}
use Rattle.yew_laws.specs.Bag.{SameBag}
use Rattle.yew_best.specs.Seats.{BestId, SeatView, joined_seat}
use Rattle.yew_stack.specs.Splits.{paths_of}
use Rattle.yew_crew.specs.Groups.{Group, IsBalanced}
use Rattle.yew_crew.specs.OpenSeats.{OpenId, OpenSeatView}
use Rattle.yew_crew.specs.Reports.{IsReport, IsGroupWork}
use Rattle.yew_crew.specs.Stations.{Searched}
use Rattle.yew_crew.specs.declared.station.Station.{Station}
use Rattle.yew_crew.specs.declared.station.Report.{Report}

module _ {N S R : Type 0} where
  -- the seats are of these objects
  pub record IsSeated (best : BestId) (tasks : OpenId) (station : Station N S R) : Type 0 where
    pub of_best : station.best.best ≡ best
    pub of_tasks : station.tasks.tasks ≡ tasks

  -- the station of a crew before it began: its sum fits, and its seats and its pass have done nothing
  pub record IsFresh (fits : S → Type 0) (station : Station N S R) : Type 0 where
    pub fits_sum : fits station.hand.sum
    pub read_none : station.best.read ≡ []
    pub offered_none : station.best.offered ≡ []

  -- the incumbent seat of the caller, joined with those of stations, in order
  abbrev pub best_with : SeatView → List (Station N S R) → SeatView
  best_with seat [] = seat
  best_with seat (station ∷ stations) = best_with (joined_seat seat station.best) stations

  -- likewise the seat of the open tasks
  abbrev pub tasks_with : OpenSeatView → List (Station N S R) → OpenSeatView
  tasks_with seat [] = seat
  tasks_with seat (station ∷ stations) =
      let other = station.tasks in
      tasks_with (record seat { share = seat.share + other.share; made = seat.made + other.made; ended = seat.ended + other.ended; knows = seat.knows || other.knows; stops = seat.stops + other.stops; saw = seat.saw || other.saw }) stations

  -- the stations of reports, in order
  abbrev pub stations_of : List (Report N S R) → List (Station N S R)
  stations_of reports = map (λ (r : Report N S R). r.station) reports

  -- the paths of the tasks that the passes of stations took and put, and that their mail seats got and gave
  abbrev pub took_of : List (Station N S R) → List (List ℕ)
  took_of stations = flat_map (λ (s : Station N S R). paths_of s.pool.took) stations

  abbrev pub put_of : List (Station N S R) → List (List ℕ)
  put_of stations = flat_map (λ (s : Station N S R). paths_of s.pool.put) stations

  abbrev pub got_of : List (Station N S R) → List (List ℕ)
  got_of stations = flat_map (λ (s : Station N S R). paths_of s.mail.got) stations

  abbrev pub given_of : List (Station N S R) → List (List ℕ)
  given_of stations = flat_map (λ (s : Station N S R). paths_of s.mail.given) stations

  module _ (s : Searched S R N) where
    -- there is one report for each station, in order
    abbrev pub AreReports : List (Station N S R) → List (Report N S R) → Type 0
    AreReports [] [] = Unit {0}
    AreReports [] (report ∷ reports) = ⊥
    AreReports (station ∷ stations) [] = ⊥
    AreReports (station ∷ stations) (report ∷ reports) = IsReport s station report × AreReports stations reports

    -- each station is what the work at the one before left, where one group stands for each
    abbrev pub AreWorked : List (Group N S) → List (Station N S R) → List (Station N S R) → Type 0
    AreWorked [] [] [] = Unit {0}
    AreWorked [] [] (after ∷ afters) = ⊥
    AreWorked [] (before ∷ befores) afters = ⊥
    AreWorked (group ∷ groups) [] afters = ⊥
    AreWorked (group ∷ groups) (before ∷ befores) [] = ⊥
    AreWorked (group ∷ groups) (before ∷ befores) (after ∷ afters) = ((work : IsGroupWork s before after) × (work.group ≡ group)) × AreWorked groups befores afters

    -- what all workers have done is what this group has done, by which the joined seats and all passes have grown
    pub record IsCrewWork (group : Group N S) (seat : SeatView) (tasks : OpenSeatView) (befores afters : List (Station N S R)) : Type 0 where
      pub balanced : IsBalanced s.tree s.gap s.join s.none s.of group
      pub took_is : SameBag (took_of afters) (took_of befores ++ group.took)
      pub put_is : SameBag (put_of afters) (put_of befores ++ group.put)
      pub got_is : SameBag (got_of afters) (got_of befores ++ group.got)
      pub given_is : SameBag (given_of afters) (given_of befores ++ group.given)
      pub reads : (best_with seat afters).read ≡ seat.read ++ group.read
      pub offers : (best_with seat afters).offered ≡ seat.offered ++ group.offered
      pub made_is : (tasks_with tasks afters).made ≡ tasks.made + (sum_by (λ (b : Station N S R). b.tasks.made) befores + group.made)
      pub ended_is : (tasks_with tasks afters).ended ≡ tasks.ended + (sum_by (λ (b : Station N S R). b.tasks.ended) befores + group.ended)

-- What a crew is before its workers begin.
use Rattle.std.specs.Prelude.{◌≡◌, ℕ, suc, ◌+◌, ◌≤◌, true, false, List, [], ◌∷◌, length, Some, None, IfSome, map, replicate}
use Rattle.std.specs.List.{AllByRecursion}
use Rattle.yew_best.specs.Seats.{BestId, SeatView}
use Rattle.yew_laws.specs.Tasks.{Members}
use Rattle.yew_laws.specs.declared.problem.Task.{Task}
use Rattle.yew_log.specs.Totals.{no_totals}
use Rattle.yew_mail.specs.Seats.{new_seat, SeatView as MailSeatView}
use Rattle.yew_mail.specs.Views.{counted_from}
use Rattle.yew_pool.specs.Passes.{PoolId, PassView}
use Rattle.yew_walk.specs.LogViews.{LogView}
use Rattle.yew_crew.specs.Crews.{AreReports}
use Rattle.yew_crew.specs.OpenSeats.{OpenId, OpenSeatView}
use Rattle.yew_crew.specs.Stations.{Searched}
use Rattle.yew_crew.specs.declared.starting.Seats.{Seats}
use Rattle.yew_crew.specs.declared.station.Shared.{Shared}
use Rattle.yew_crew.specs.declared.station.Report.{Report}
use Rattle.yew_crew.specs.declared.station.Station.{Station}

-- a seat at the incumbent word that has done nothing
abbrev pub new_best : BestId → ℕ → SeatView
new_best best share = record { best = best; share = share; read = []; offered = []; heard = [] }

-- a seat at the open tasks that has made this many, and knows that some task was made
abbrev pub new_open : OpenId → ℕ → ℕ → OpenSeatView
new_open tasks share made =
    record { tasks = tasks; share = share; made = made; ended = 0; knows = true; last = None; knew = false; stops = 0; saw = false }

module _ {N : Type 0} (members : Members N) where
  -- a pass that has put these tasks and done nothing else
  abbrev pub new_put : PoolId → ℕ → List (Task N) → PassView (Task N) (Members N)
  new_put pool place put = record {
    pool = pool;
    number = place;
    share = 1;
    members = Some members;
    put = put;
    took = [];
    found_empty = replicate (length pool.deques) 0;
  }

  -- these passes have done nothing, and their numbers go on from this place
  abbrev pub ArePasses : PoolId → ℕ → List (PassView (Task N) (Members N)) → Type 0
  ArePasses pool place [] = Unit {0}
  ArePasses pool place (pass ∷ passes) = (pass ≡ new_put pool place []) × ArePasses pool (suc place) passes

module _ {N : Type 0} (members : Members N) where
  -- The seats of a crew of so many workers before they are shared out: those of the first worker have the whole shares, a task was made, and there are a pass and a mail seat for each worker, which have done nothing
  pub record IsBeginning (workers : ℕ) (shared : Shared N) (seats : Seats N) : Type 0 where
    pub best_is : seats.best ≡ new_best shared.best workers
    pub tasks_is : seats.tasks ≡ new_open shared.tasks workers 1
    pub passes_are : ArePasses members shared.pool 0 seats.passes.items
    pub count : length seats.passes.items ≡ workers
    pub seats_are : seats.mail.items ≡ map (new_seat shared.mail members) (counted_from 1 workers)
    pub best_seats : shared.best.seats ≡ workers
    pub deques : length shared.pool.deques ≡ workers
    pub mailboxes : shared.mail.workers ≡ workers
    pub open_seats : shared.tasks.seats ≡ workers

module _ {N S R : Type 0} (members : Members N) (none : S) (seen : R → LogView) (shared : Shared N) where
  -- The station at this place, from 0, as its worker begins: the seats and the pass have done nothing but to make this many tasks and to put these; the hand is empty and has its space, and the log is new
  pub record IsBegun (place made : ℕ) (put : List (Task N)) (station : Station N S R) : Type 0 where
    pub number_is : station.number ≡ place + 1
    pub best_is : station.best ≡ new_best shared.best 1
    pub pool_is : station.pool ≡ new_put members shared.pool place put
    pub mail_is : station.mail ≡ new_seat shared.mail members (place + 1)
    pub tasks_is : station.tasks ≡ new_open shared.tasks 1 made
    pub sum_none : station.hand.sum ≡ none
    pub holds_none : station.hand.holds ≡ false
    pub space : 65535 ≤ station.hand.path.space
    pub told : IfSome (seen station.log).told (λ notes. notes ≡ [])
    pub totals : (seen station.log).totals ≡ no_totals
    pub log_number : (seen station.log).number ≡ place + 1

  -- these stations begin with nothing, from this place on
  abbrev pub AreBegun : ℕ → List (Station N S R) → Type 0
  AreBegun place [] = Unit {0}
  AreBegun place (station ∷ stations) = IsBegun place 0 [] station × AreBegun (suc place) stations

  -- The stations of the others are made one after another: the seats of the first worker have the shares that are left, and these passes and mail seats are left
  pub record IsSeating (best : SeatView) (tasks : OpenSeatView) (passes : List (PassView (Task N) (Members N))) (seats : List (MailSeatView (Task N) (Members N))) (stations : List (Station N S R)) : Type 0 where
    pub best_is : best ≡ new_best shared.best (suc (length passes))
    pub tasks_is : tasks ≡ new_open shared.tasks (suc (length passes)) 1
    pub passes_are : ArePasses members shared.pool (suc (length stations)) passes
    pub seats_are : seats ≡ map (new_seat shared.mail members) (counted_from (suc (length stations) + 1) (length passes))
    pub stations_are : AreBegun 1 stations
    pub few : suc (length stations + length passes) ≤ 64

  -- The stations of so many workers, in order. The first worker has made the root's task, which its pass has put, and the others have done nothing. The shares of the seats add up to the whole
  pub record IsCrew (workers : ℕ) (stations : List (Station N S R)) : Type 0 where
    pub root : Task N
    pub of_root : root.path.numbers ≡ []
    pub first : Station N S R
    pub others : List (Station N S R)
    pub stands : stations ≡ first ∷ others
    pub count : suc (length others) ≡ workers
    pub first_is : IsBegun 0 1 (root ∷ []) first
    pub others_are : AreBegun 1 others
    pub best_seats : shared.best.seats ≡ workers
    pub deques : length shared.pool.deques ≡ workers
    pub mailboxes : shared.mail.workers ≡ workers
    pub open_seats : shared.tasks.seats ≡ workers

module _ {N S R : Type 0} (s : Searched S R N) (fits : S → Type 0) (members : Members N) (workers : ℕ) where
  -- A crew of so many workers has worked: there is a report of each, in order, on the station that it was given
  pub record HasWorked (shared : Shared N) (reports : List (Report N S R)) : Type 0 where
    pub begun : List (Station N S R)
    pub crew : IsCrew members s.none s.seen shared workers begun
    pub are_reports : AreReports s begun reports
    pub fit : AllByRecursion (λ (r : Report N S R). fits r.station.hand.sum) reports

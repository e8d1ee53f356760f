-- What the workers of a crew carried, part by part.
use Rattle.std.specs.Prelude.{◌≡◌, List, [], ◌∷◌, ◌++◌, map, Option, Some, None}
use Rattle.yew_mail.specs.Seats as mail
use Rattle.yew_pool.specs.Passes.{PassView}
use Rattle.yew_laws.specs.Tasks.{Members}
use Rattle.yew_laws.specs.declared.problem.Task.{Task}
use Rattle.yew_walk.specs.declared.fault.SearchFault.{SearchFault}
use Rattle.yew_walk.specs.declared.hand.Hand.{Hand}
use Rattle.yew_crew.specs.Crews.{best_with, tasks_with, stations_of}
use Rattle.yew_crew.specs.declared.joining.Parts.{Parts}
use Rattle.yew_crew.specs.declared.station.End.{End}
use Rattle.yew_crew.specs.declared.station.End.TheVariants.{Done, Stopped, Fault}
use Rattle.yew_crew.specs.declared.station.Report.{Report}
use Rattle.yew_crew.specs.declared.station.Station.{Station}

-- the fault that is there, or else that of a worker's end
abbrev pub first_fault : Option SearchFault → End → Option SearchFault
first_fault (Some fault) end = Some fault
first_fault None (Fault fault) = Some fault
first_fault None Done = None
first_fault None Stopped = None

module _ {N S R : Type 0} where
  -- the fault of the first of these reports that has one, where there is none yet
  abbrev pub fault_in : Option SearchFault → List (Report N S R) → Option SearchFault
  fault_in fault [] = fault
  fault_in fault (report ∷ reports) = fault_in (first_fault fault report.end) reports

  abbrev pub passes_of : List (Station N S R) → List (PassView (Task N) (Members N))
  passes_of stations = map (λ (s : Station N S R). s.pool) stations

  abbrev pub seats_of : List (Station N S R) → List (mail.SeatView (Task N) (Members N))
  seats_of stations = map (λ (s : Station N S R). s.mail) stations

  abbrev pub hands_of : List (Station N S R) → List (Hand S)
  hands_of stations = map (λ (s : Station N S R). s.hand) stations

  abbrev pub logs_of : List (Station N S R) → List R
  logs_of stations = map (λ (s : Station N S R). s.log) stations

  -- what these reports carried stands behind what was there
  pub record IsJoined (before : Parts N S R) (reports : List (Report N S R)) (after : Parts N S R) : Type 0 where
    pub best : after.best ≡ best_with before.best (stations_of reports)
    pub tasks : after.tasks ≡ tasks_with before.tasks (stations_of reports)
    pub passes : after.passes.items ≡ before.passes.items ++ passes_of (stations_of reports)
    pub seats : after.seats.items ≡ before.seats.items ++ seats_of (stations_of reports)
    pub hands : after.hands.items ≡ before.hands.items ++ hands_of (stations_of reports)
    pub logs : after.logs.items ≡ before.logs.items ++ logs_of (stations_of reports)
    pub fault : after.fault ≡ fault_in before.fault reports

  -- what the first report carried
  pub record IsFirst (report : Report N S R) (parts : Parts N S R) : Type 0 where
    pub best : parts.best ≡ report.station.best
    pub tasks : parts.tasks ≡ report.station.tasks
    pub passes : parts.passes.items ≡ report.station.pool ∷ []
    pub seats : parts.seats.items ≡ report.station.mail ∷ []
    pub hands : parts.hands.items ≡ report.station.hand ∷ []
    pub logs : parts.logs.items ≡ report.station.log ∷ []
    pub fault : parts.fault ≡ first_fault None report.end

  -- what these reports carried, of which there is at least one: the seats are joined to those of the first
  pub record AreParts (reports : List (Report N S R)) (parts : Parts N S R) : Type 0 where
    pub first : Report N S R
    pub rest : List (Report N S R)
    pub stands : reports ≡ first ∷ rest
    pub best : parts.best ≡ best_with first.station.best (stations_of rest)
    pub tasks : parts.tasks ≡ tasks_with first.station.tasks (stations_of rest)
    pub passes : parts.passes.items ≡ passes_of (stations_of reports)
    pub seats : parts.seats.items ≡ seats_of (stations_of reports)
    pub hands : parts.hands.items ≡ hands_of (stations_of reports)
    pub logs : parts.logs.items ≡ logs_of (stations_of reports)
    pub fault : parts.fault ≡ fault_in None reports

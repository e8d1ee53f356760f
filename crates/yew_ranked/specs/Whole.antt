-- All workers of an ordered search: how their stations begin, what they have done together, and what their seats come to once they are joined.
use Rattle.std.specs.Prelude.{◌≡◌, ℕ, suc, ◌-◌, ◌⊎◌, false, List, [], ◌∷◌, All, Contains, map, length, IfSome}
use Rattle.std.specs.List.{AllByRecursion, flat_map}
use Rattle.yew_best.specs.Seats.{SeatView, joined_seat}
use Rattle.yew_crew.specs.declared.station.End.{End}
use Rattle.yew_crew.specs.declared.station.End.TheVariants.{Done, Stopped, Fault}
use Rattle.yew_crew.specs.Reports.{IsEndDone}
use Rattle.yew_laws.specs.SearchTree.{SearchTree}
use Rattle.yew_log.specs.Totals.{no_totals}
use Rattle.yew_walk.specs.LogViews.{LogView, log_after}
use Rattle.yew_ranked.specs.ClaimSeats.{AreBelow}
use Rattle.yew_ranked.specs.Frontier.{frontier_log}
use Rattle.yew_ranked.specs.FrontierWalk.{IsFrontierWalked}
use Rattle.yew_ranked.specs.Stations.{IsRankedReport}
use Rattle.yew_ranked.specs.Tasks.{Numbered}
use Rattle.yew_ranked.specs.declared.station.RankedStation.{RankedStation}
use Rattle.yew_ranked.specs.declared.station.RankedReport.{RankedReport}

-- a log that has recorded nothing, of the worker of this number
pub record IsFreshLog (number : ℕ) (log : LogView) : Type 0 where
  pub told : IfSome log.told (λ notes. notes ≡ [])
  pub totals_are : log.totals ≡ no_totals
  pub number_is : log.number ≡ number

module _ {S R : Type 0} (none : S) (seen : R → LogView) where
  -- a station whose worker has done nothing yet: its incumbent seat has read what the first one had read
  pub record IsFreshStation (number : ℕ) (station : RankedStation S R) : Type 0 where
    pub number_is : station.number ≡ number
    pub none_offered : station.best.offered ≡ []
    pub none_heard : station.best.heard ≡ []
    pub none_claimed : station.claims.claimed ≡ []
    pub no_stop : station.stop.stops ≡ 0
    pub holds_none : station.hand.holds ≡ false
    pub sum_is : station.hand.sum ≡ none
    pub log : IsFreshLog number (seen station.log)

  -- fresh stations, whose numbers rise from this one on
  abbrev pub AreFresh : ℕ → List (RankedStation S R) → Type 0
  AreFresh number [] = Unit {0}
  AreFresh number (station ∷ stations) = IsFreshStation number station × AreFresh (suc number) stations

module _ {N S R : Type 0} (t : SearchTree N) (join : S → S → S) (none : S) (of : N → ℕ → S) (seen : R → LogView) (depth : ℕ) (tasks : List Numbered) where
  -- the station of the first worker, who has walked what lies above the depth of tasks
  pub record IsFirstStation (station : RankedStation S R) : Type 0 where
    pub first : SeatView
    pub walked : SeatView
    pub begun : LogView
    pub frontier : IsFrontierWalked t join none of depth first walked station.hand tasks
    pub none_offered : first.offered ≡ []
    pub seat_is : station.best ≡ record walked { share = station.best.share }
    pub fresh_log : IsFreshLog 1 begun
    pub log_is : seen station.log ≡ log_after begun (frontier_log t (depth - 1))
    pub number_is : station.number ≡ 1
    pub none_claimed : station.claims.claimed ≡ []
    pub no_stop : station.stop.stops ≡ 0

  -- the stations of so many workers, in order, before they begin; where there is one worker, its seat at the incumbent word has the whole share
  pub record IsRankedCrew (workers : ℕ) (begun : List (RankedStation S R)) : Type 0 where
    pub first : RankedStation S R
    pub others : List (RankedStation S R)
    pub stands : begun ≡ first ∷ others
    pub count : suc (length others) ≡ workers
    pub first_is : IsFirstStation first
    pub others_are : AreFresh none seen 2 others
    pub alone : workers ≡ 1 → first.best.share ≡ first.best.best.seats

  -- there is one report for each station, in order
  abbrev pub AreRankedReports : List (RankedStation S R) → List (RankedReport S R) → Type 0
  AreRankedReports [] [] = Unit {0}
  AreRankedReports [] (report ∷ reports) = ⊥
  AreRankedReports (station ∷ stations) [] = ⊥
  AreRankedReports (station ∷ stations) (report ∷ reports) = IsRankedReport t join none of seen tasks station report × AreRankedReports stations reports

  -- all workers have worked, each at the station that it was given
  pub record HasRankedWorked (workers : ℕ) (reports : List (RankedReport S R)) : Type 0 where
    pub begun : List (RankedStation S R)
    pub crew : IsRankedCrew workers begun
    pub are_reports : AreRankedReports begun reports

module _ {S R : Type 0} where
  -- the stations of reports, in order
  abbrev pub ranked_stations : List (RankedReport S R) → List (RankedStation S R)
  ranked_stations reports = map (λ (r : RankedReport S R). r.station) reports

  -- the incumbent seat of a worker, joined with those of stations, in order
  abbrev pub best_with : SeatView → List (RankedStation S R) → SeatView
  best_with seat [] = seat
  best_with seat (station ∷ stations) = best_with (joined_seat seat station.best) stations

  -- all numbers that were claimed, station by station
  abbrev pub claimed_by : List (RankedStation S R) → List ℕ
  claimed_by stations = flat_map (λ (s : RankedStation S R). s.claims.claimed) stations

  -- What the joined seats of all workers say: each word that was read is 0 or was offered, nothing was heard that none of them offered, and the claimed numbers are all those below one
  pub record IsRankedSettled (reports : List (RankedReport S R)) : Type 0 where
    pub first : RankedReport S R
    pub rest : List (RankedReport S R)
    pub stands : reports ≡ first ∷ rest
    pub none_heard : AllByRecursion (λ x. x ≡ 0) (best_with first.station.best (ranked_stations rest)).heard
    pub reads_offered : All (λ x. (x ≡ 0) ⊎ Contains (best_with first.station.best (ranked_stations rest)).offered x) (best_with first.station.best (ranked_stations rest)).read
    pub whole : (best_with first.station.best (ranked_stations rest)).share ≡ (best_with first.station.best (ranked_stations rest)).best.seats
    pub count : ℕ
    pub claimed : AreBelow count (claimed_by (ranked_stations reports))

  -- every worker found no task left
  abbrev pub AllDone : List (RankedReport S R) → Type 0
  AllDone reports = AllByRecursion (λ (r : RankedReport S R). IsEndDone r.end) reports

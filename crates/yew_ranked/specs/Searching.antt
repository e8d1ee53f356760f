-- An ordered search from its start to its end: what the first worker begins with, what all workers have done, and what that comes to.
use Rattle.std.specs.Prelude.{◌≡◌, ℕ, ◌<◌, ◌≤◌, ◌⊎◌, true, List, [], ◌∷◌, All, Contains, map, None}
use Rattle.std.specs.List.{AllByRecursion}
use Rattle.yew_laws.specs.SearchTree.{SearchTree}
use Rattle.yew_walk.specs.LogViews.{LogView}
use Rattle.yew_ranked.specs.Joining.{stop_with, hands_of, logs_of, fault_in}
use Rattle.yew_ranked.specs.Starting.{IsSeated}
use Rattle.yew_ranked.specs.Tasks.{numbered_task, IsTaskOf}
use Rattle.yew_ranked.specs.Whole.{IsFirstStation, IsRankedCrew, AreRankedReports, ranked_stations, IsRankedSettled}
use Rattle.yew_ranked.specs.declared.ending.Settled.{Settled}
use Rattle.yew_ranked.specs.declared.station.RankedReport.{RankedReport}
use Rattle.yew_ranked.specs.declared.station.RankedShared.{RankedShared}
use Rattle.yew_ranked.specs.declared.station.RankedStation.{RankedStation}

module _ {N S R : Type 0} (t : SearchTree N) (join : S → S → S) (none : S) (of : N → ℕ → S) (seen : R → LogView) (fits : S → Type 0) (depth workers : ℕ) where
  -- The first worker has walked what lies above the depth of tasks, and its seats have the whole shares
  pub record IsBegun (shared : RankedShared) (first : RankedStation S R) : Type 0 where
    pub tasks : AllByRecursion (IsTaskOf t) shared.tasks.items
    pub seated : IsSeated shared workers first
    pub first_is : IsFirstStation t join none of seen depth (map numbered_task shared.tasks.items) first
    pub fits_sum : fits first.hand.sum
    pub best_seats : shared.best.seats ≡ workers
    pub claims_seats : shared.claims.seats ≡ workers
    pub stop_seats : shared.stop.seats ≡ workers

  -- So many workers have worked: there is a report of each, in order, on the station that it was given
  pub record HasWorked (shared : RankedShared) (reports : List (RankedReport S R)) : Type 0 where
    pub begun : List (RankedStation S R)
    pub crew : IsRankedCrew t join none of seen depth (map numbered_task shared.tasks.items) workers begun
    pub seated : AllByRecursion (IsSeated shared 1) begun
    pub are_reports : AreRankedReports t join none of seen depth (map numbered_task shared.tasks.items) begun reports
    pub fit : AllByRecursion (λ (r : RankedReport S R). fits r.station.hand.sum) reports
    pub best_seats : shared.best.seats ≡ workers
    pub claims_seats : shared.claims.seats ≡ workers
    pub stop_seats : shared.stop.seats ≡ workers

module _ {S R : Type 0} where
  -- What the reports came to: their hands and logs, in order, and the fault of the first that has one; and their joined seats, of which that at the stop word has seen it set only where a seat has set it
  pub record IsSettled (reports : List (RankedReport S R)) (settled : Settled S R) : Type 0 where
    pub seats : IsRankedSettled reports
    pub saw : (stop_with seats.first.station.stop (ranked_stations seats.rest)).saw ≡ true → 0 < (stop_with seats.first.station.stop (ranked_stations seats.rest)).stops
    pub hands : settled.hands.items ≡ hands_of (ranked_stations reports)
    pub logs : settled.logs.items ≡ logs_of (ranked_stations reports)
    pub fault : settled.fault ≡ fault_in None reports

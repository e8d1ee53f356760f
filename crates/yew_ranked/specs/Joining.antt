-- What the workers of an ordered search carried, part by part.
use Rattle.std.specs.Prelude.{◌≡◌, ◌+◌, ◌||◌, List, [], ◌∷◌, ◌++◌, map, Option, None}
use Rattle.yew_best.specs.Seats.{BestId, SeatView}
use Rattle.yew_crew.specs.Joining.{first_fault}
use Rattle.yew_crew.specs.OpenSeats.{OpenId, OpenSeatView}
use Rattle.yew_walk.specs.declared.fault.SearchFault.{SearchFault}
use Rattle.yew_walk.specs.declared.hand.Hand.{Hand}
use Rattle.yew_ranked.specs.ClaimSeats.{ClaimsId, ClaimSeatView}
use Rattle.yew_ranked.specs.Whole.{best_with, ranked_stations}
use Rattle.yew_ranked.specs.declared.joining.Parts.{Parts}
use Rattle.yew_ranked.specs.declared.station.RankedReport.{RankedReport}
use Rattle.yew_ranked.specs.declared.station.RankedStation.{RankedStation}

module _ {S R : Type 0} where
  -- the seat at the counter of claims, joined with those of stations, in order
  abbrev pub claims_with : ClaimSeatView → List (RankedStation S R) → ClaimSeatView
  claims_with seat [] = seat
  claims_with seat (station ∷ stations) =
      let other = station.claims in
      claims_with (record seat { share = seat.share + other.share; claimed = seat.claimed ++ other.claimed }) stations

  -- likewise the seat at the stop word
  abbrev pub stop_with : OpenSeatView → List (RankedStation S R) → OpenSeatView
  stop_with seat [] = seat
  stop_with seat (station ∷ stations) =
      let other = station.stop in
      stop_with (record seat { share = seat.share + other.share; made = seat.made + other.made; ended = seat.ended + other.ended; knows = seat.knows || other.knows; stops = seat.stops + other.stops; saw = seat.saw || other.saw }) stations

  abbrev pub hands_of : List (RankedStation S R) → List (Hand S)
  hands_of stations = map (λ (s : RankedStation S R). s.hand) stations

  abbrev pub logs_of : List (RankedStation S R) → List R
  logs_of stations = map (λ (s : RankedStation S R). s.log) stations

  -- the fault of the first of these reports that has one, where there is none yet
  abbrev pub fault_in : Option SearchFault → List (RankedReport S R) → Option SearchFault
  fault_in fault [] = fault
  fault_in fault (report ∷ reports) = fault_in (first_fault fault report.end) reports

  -- what these reports carried stands behind what was there
  pub record IsJoined (before : Parts S R) (reports : List (RankedReport S R)) (after : Parts S R) : Type 0 where
    pub best : after.best ≡ best_with before.best (ranked_stations reports)
    pub claims : after.claims ≡ claims_with before.claims (ranked_stations reports)
    pub stop : after.stop ≡ stop_with before.stop (ranked_stations reports)
    pub hands : after.hands.items ≡ before.hands.items ++ hands_of (ranked_stations reports)
    pub logs : after.logs.items ≡ before.logs.items ++ logs_of (ranked_stations reports)
    pub fault : after.fault ≡ fault_in before.fault reports

  -- what the first report carried
  pub record IsFirst (report : RankedReport S R) (parts : Parts S R) : Type 0 where
    pub best : parts.best ≡ report.station.best
    pub claims : parts.claims ≡ report.station.claims
    pub stop : parts.stop ≡ report.station.stop
    pub hands : parts.hands.items ≡ report.station.hand ∷ []
    pub logs : parts.logs.items ≡ report.station.log ∷ []
    pub fault : parts.fault ≡ first_fault None report.end

  -- what these reports carried, of which there is at least one: the seats are joined to those of the first
  pub record AreParts (reports : List (RankedReport S R)) (parts : Parts S R) : Type 0 where
    pub first : RankedReport S R
    pub rest : List (RankedReport S R)
    pub stands : reports ≡ first ∷ rest
    pub best : parts.best ≡ best_with first.station.best (ranked_stations rest)
    pub claims : parts.claims ≡ claims_with first.station.claims (ranked_stations rest)
    pub stop : parts.stop ≡ stop_with first.station.stop (ranked_stations rest)
    pub hands : parts.hands.items ≡ hands_of (ranked_stations reports)
    pub logs : parts.logs.items ≡ logs_of (ranked_stations reports)
    pub fault : parts.fault ≡ fault_in None reports

  -- the seats of the station are of these shared objects
  pub record IsAt (best : BestId) (claims : ClaimsId) (stop : OpenId) (station : RankedStation S R) : Type 0 where
    pub of_best : station.best.best ≡ best
    pub of_claims : station.claims.claims ≡ claims
    pub of_stop : station.stop.tasks ≡ stop

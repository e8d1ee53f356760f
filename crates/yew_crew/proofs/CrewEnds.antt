-- Where no report ended with a fault, every report ended with Done.
use Rattle.std.proofs.Common.{◌≡◌, ◌+◌, ◌<◌, Bool, true, false, ◌||◌, List, [], ◌∷◌, ◌∙◌, refl, arith}
use Rattle.std.specs.List.{AllByRecursion}
use Rattle.yew_crew.specs.declared.station.Station.{Station}
use Rattle.yew_crew.specs.declared.station.Report.{Report}
use Rattle.yew_crew.specs.declared.station.End.{End}
use Rattle.yew_crew.specs.declared.station.End.TheVariants.{Done, Stopped, Fault}
use Rattle.yew_crew.specs.OpenSeats.{OpenSeatView}
use Rattle.yew_crew.specs.Crews.{AreReports, tasks_with, stations_of}
use Rattle.yew_crew.specs.Reports.{IsEnd, HasNoFault, IsEndDone}
use Rattle.yew_crew.specs.Stations.{Searched}

or_right : (a b : Bool) → b ≡ true → (a || b) ≡ true
or_right true b e = refl
or_right false b e = e

or_left : (a b : Bool) → a ≡ true → (a || b) ≡ true
or_left true b e = refl
or_left false b e = absurd (let n : false ≡ true → ⊥ = λ h. cc in n e)

module _ {N S R : Type 0} where
  -- a joined seat has seen the stop word set where one of its parts had
  saw-stays : (stations : List (Station N S R)) (seat : OpenSeatView) → seat.saw ≡ true → (tasks_with seat stations).saw ≡ true
  saw-stays [] seat e = e
  saw-stays (s ∷ ss) seat e = saw-stays ss _ (or_left seat.saw s.tasks.saw e)

  module _ (s : Searched S R N) where
    -- without a fault the joined seat has the stops that the first one had
    stops-stay : (befores : List (Station N S R)) (reports : List (Report N S R)) (seat : OpenSeatView) → AreReports s befores reports
        → AllByRecursion (λ (b : Station N S R). b.tasks.stops ≡ 0) befores → AllByRecursion (λ (r : Report N S R). HasNoFault r.end) reports
        → (tasks_with seat (stations_of reports)).stops ≡ seat.stops
    stops-stay [] [] seat are begins ends = refl
    stops-stay [] (r ∷ rs) seat are begins ends = absurd are
    stops-stay (b ∷ bs) [] seat are begins ends = absurd are
    stops-stay (b ∷ bs) (r ∷ rs) seat are begins ends =
        let rest : (tasks_with (tasks_with seat (r.station ∷ [])) (stations_of rs)).stops ≡ seat.stops + r.station.tasks.stops = stops-stay bs rs (tasks_with seat (r.station ∷ [])) are.1 begins.1 ends.1 in
        let zero_before = begins.0 in
        let own = unstopped r.end are.0.ends ends.0 in
        let same : seat.stops + r.station.tasks.stops ≡ seat.stops = omega arith in rest ∙ same
      where
        unstopped : (end : End) → IsEnd s b r.station end → HasNoFault end → r.station.tasks.stops ≡ b.tasks.stops
        unstopped Done is calm = is.no_stop
        unstopped Stopped is calm = is.no_stop
        unstopped (Fault fault) is calm = absurd calm

    -- so no worker was told to stop
    pub all-done : (befores : List (Station N S R)) (reports : List (Report N S R)) (seat : OpenSeatView) → AreReports s befores reports
        → AllByRecursion (λ (b : Station N S R). b.tasks.stops ≡ 0) befores → AllByRecursion (λ (r : Report N S R). HasNoFault r.end) reports
        → seat.stops ≡ 0 → ((tasks_with seat (stations_of reports)).saw ≡ true → 0 < (tasks_with seat (stations_of reports)).stops) → AllByRecursion (λ (r : Report N S R). IsEndDone r.end) reports
    all-done [] [] seat are begins ends none_first exact = tt
    all-done [] (r ∷ rs) seat are begins ends none_first exact = absurd are
    all-done (b ∷ bs) [] seat are begins ends none_first exact = absurd are
    all-done (b ∷ bs) (r ∷ rs) seat are begins ends none_first exact =
        let stays = stops-stay (b ∷ bs) (r ∷ rs) seat are begins ends in
        let own : seat.stops + r.station.tasks.stops ≡ seat.stops = stops-stay (b ∷ []) (r ∷ []) seat (are.0, tt) (begins.0, tt) (ends.0, tt) in
        (done r.end are.0.ends ends.0 stays, all-done bs rs (tasks_with seat (r.station ∷ [])) are.1 begins.1 ends.1 (own ∙ none_first) exact)
      where
        done : (end : End) → IsEnd s b r.station end → HasNoFault end → (tasks_with seat (r.station ∷ stations_of rs)).stops ≡ seat.stops → IsEndDone end
        done Done is calm stays = tt
        done Stopped is calm stays = absurd (let more = exact (saw-stays (stations_of rs) (tasks_with seat (r.station ∷ [])) (or_right seat.saw r.station.tasks.saw is.saw)) in omega arith)
        done (Fault fault) is calm stays = absurd calm

-- Where no report of an ordered search ended with a fault, every worker found no task left.
use Rattle.std.proofs.Common.{◌≡◌, ℕ, ◌+◌, ◌<◌, Bool, true, false, ◌||◌, List, [], ◌∷◌, ◌∙◌, Option, Some, None, refl, sym, ap, subst, arith}
use Rattle.std.specs.List.{AllByRecursion}
use Rattle.yew_crew.specs.Joining.{first_fault}
use Rattle.yew_crew.specs.OpenSeats.{OpenSeatView}
use Rattle.yew_crew.specs.Reports.{HasNoFault, IsEndDone}
use Rattle.yew_crew.specs.declared.station.End.{End}
use Rattle.yew_crew.specs.declared.station.End.TheVariants.{Done, Stopped, Fault}
use Rattle.yew_laws.specs.SearchTree.{SearchTree}
use Rattle.yew_walk.specs.LogViews.{LogView}
use Rattle.yew_walk.specs.declared.fault.SearchFault.{SearchFault}
use Rattle.yew_ranked.specs.Joining.{stop_with, fault_in}
use Rattle.yew_ranked.specs.Stations.{IsRankedEnd}
use Rattle.yew_ranked.specs.Tasks.{Numbered}
use Rattle.yew_ranked.specs.Whole.{AreRankedReports, ranked_stations}
use Rattle.yew_ranked.specs.declared.station.RankedReport.{RankedReport}
use Rattle.yew_ranked.specs.declared.station.RankedStation.{RankedStation}

or_right : (a b : Bool) → b ≡ true → (a || b) ≡ true
or_right true b e = refl
or_right false b e = e

or_left : (a b : Bool) → a ≡ true → (a || b) ≡ true
or_left true b e = refl
or_left false b e = absurd (let n : false ≡ true → ⊥ = λ h. cc in n e)

module _ {S R : Type 0} where
  -- a fault that is there stays
  pub fault-stays : (fault : SearchFault) (reports : List (RankedReport S R)) → fault_in (Some fault) reports ≡ Some fault
  fault-stays fault [] = refl
  fault-stays fault (r ∷ rs) = fault-stays fault rs

  -- no report has a fault where none is found
  pub none-faulty : (reports : List (RankedReport S R)) → fault_in None reports ≡ None → AllByRecursion (λ (r : RankedReport S R). HasNoFault r.end) reports
  none-faulty [] none = tt
  none-faulty (r ∷ rs) none = by (none-faulty rs) r.end none
    where
      by : (fault_in None rs ≡ None → AllByRecursion (λ (x : RankedReport S R). HasNoFault x.end) rs) → (end : End) → fault_in (first_fault None end) rs ≡ None
          → HasNoFault end × AllByRecursion (λ (x : RankedReport S R). HasNoFault x.end) rs
      by later Done e = (tt, later e)
      by later Stopped e = (tt, later e)
      by later (Fault fault) e = absurd (let a = fault-stays fault rs in let b = sym a ∙ e in cc)

  -- a joined seat has seen the stop word set where one of its parts had
  saw-stays : (stations : List (RankedStation S R)) (seat : OpenSeatView) → seat.saw ≡ true → (stop_with seat stations).saw ≡ true
  saw-stays [] seat e = e
  saw-stays (s ∷ ss) seat e = saw-stays ss _ (or_left seat.saw s.stop.saw e)

  module _ {N : Type 0} (t : SearchTree N) (join : S → S → S) (none : S) (of : N → ℕ → S) (seen : R → LogView) (depth : ℕ) (tasks : List Numbered) where
    -- without a fault the joined seat has the stops that the first one had
    pub stops-stay : (befores : List (RankedStation S R)) (reports : List (RankedReport S R)) (seat : OpenSeatView) → AreRankedReports t join none of seen depth tasks befores reports
        → AllByRecursion (λ (b : RankedStation S R). b.stop.stops ≡ 0) befores → AllByRecursion (λ (r : RankedReport S R). HasNoFault r.end) reports
        → (stop_with seat (ranked_stations reports)).stops ≡ seat.stops
    stops-stay [] [] seat are begins ends = refl
    stops-stay [] (r ∷ rs) seat are begins ends = absurd are
    stops-stay (b ∷ bs) [] seat are begins ends = absurd are
    stops-stay (b ∷ bs) (r ∷ rs) seat are begins ends =
        let rest : (stop_with (stop_with seat (r.station ∷ [])) (ranked_stations rs)).stops ≡ seat.stops + r.station.stop.stops = stops-stay bs rs (stop_with seat (r.station ∷ [])) are.1 begins.1 ends.1 in
        let zero_before = begins.0 in
        let own = unstopped r.end are.0.ends ends.0 in
        let same : seat.stops + r.station.stop.stops ≡ seat.stops = omega arith in rest ∙ same
      where
        unstopped : (end : End) → IsRankedEnd t join none of seen tasks b r.station end → HasNoFault end → r.station.stop.stops ≡ b.stop.stops
        unstopped Done is calm = is.no_stop ∙ is.working.no_stop
        unstopped Stopped is calm = is.no_stop
        unstopped (Fault fault) is calm = absurd calm

    -- so no worker was told to stop
    pub all-done : (befores : List (RankedStation S R)) (reports : List (RankedReport S R)) (seat : OpenSeatView) → AreRankedReports t join none of seen depth tasks befores reports
        → AllByRecursion (λ (b : RankedStation S R). b.stop.stops ≡ 0) befores → AllByRecursion (λ (r : RankedReport S R). HasNoFault r.end) reports
        → seat.stops ≡ 0 → ((stop_with seat (ranked_stations reports)).saw ≡ true → 0 < (stop_with seat (ranked_stations reports)).stops)
        → AllByRecursion (λ (r : RankedReport S R). IsEndDone r.end) reports
    all-done [] [] seat are begins ends none_first exact = tt
    all-done [] (r ∷ rs) seat are begins ends none_first exact = absurd are
    all-done (b ∷ bs) [] seat are begins ends none_first exact = absurd are
    all-done (b ∷ bs) (r ∷ rs) seat are begins ends none_first exact =
        let stays = stops-stay (b ∷ bs) (r ∷ rs) seat are begins ends in
        let own : seat.stops + r.station.stop.stops ≡ seat.stops = stops-stay (b ∷ []) (r ∷ []) seat (are.0, tt) (begins.0, tt) (ends.0, tt) in
        (done r.end are.0.ends ends.0 stays, all-done bs rs (stop_with seat (r.station ∷ [])) are.1 begins.1 ends.1 (own ∙ none_first) exact)
      where
        done : (end : End) → IsRankedEnd t join none of seen tasks b r.station end → HasNoFault end → (stop_with seat (r.station ∷ ranked_stations rs)).stops ≡ seat.stops → IsEndDone end
        done Done is calm stays = tt
        done Stopped is calm stays = absurd (let more = exact (saw-stays (ranked_stations rs) (stop_with seat (r.station ∷ [])) (or_right seat.saw r.station.stop.saw is.saw)) in omega arith)
        done (Fault fault) is calm stays = absurd calm

    -- the same where the first worker's seat is the one into which the others are joined
    pub all-done-first : (befores : List (RankedStation S R)) (reports : List (RankedReport S R)) (first : RankedReport S R) (rest : List (RankedReport S R)) → reports ≡ first ∷ rest
        → AreRankedReports t join none of seen depth tasks befores reports
        → AllByRecursion (λ (b : RankedStation S R). b.stop.stops ≡ 0) befores → AllByRecursion (λ (r : RankedReport S R). HasNoFault r.end) reports
        → ((stop_with first.station.stop (ranked_stations rest)).saw ≡ true → 0 < (stop_with first.station.stop (ranked_stations rest)).stops)
        → AllByRecursion (λ (r : RankedReport S R). IsEndDone r.end) reports
    all-done-first befores reports first rest stands are begins ends exact =
        by befores (subst (λ (rs : List (RankedReport S R)). AreRankedReports t join none of seen depth tasks befores rs) stands are) begins
        (subst (λ (rs : List (RankedReport S R)). AllByRecursion (λ (r : RankedReport S R). HasNoFault r.end) rs) stands ends)
      where
        quiet : (end : End) (b : RankedStation S R) → IsRankedEnd t join none of seen tasks b first.station end → HasNoFault end → b.stop.stops ≡ 0 → first.station.stop.stops ≡ 0
        quiet Done b is calm zero = is.no_stop ∙ (is.working.no_stop ∙ zero)
        quiet Stopped b is calm zero = is.no_stop ∙ zero
        quiet (Fault fault) b is calm zero = absurd calm

        own : (end : End) (b : RankedStation S R) → IsRankedEnd t join none of seen tasks b first.station end → HasNoFault end
            → (stop_with first.station.stop (ranked_stations rest)).stops ≡ 0 → IsEndDone end
        own Done b is calm zero = tt
        own Stopped b is calm zero = absurd (let more = exact (saw-stays (ranked_stations rest) first.station.stop is.saw) in omega arith)
        own (Fault fault) b is calm zero = absurd calm

        by : (bs : List (RankedStation S R)) → AreRankedReports t join none of seen depth tasks bs (first ∷ rest) → AllByRecursion (λ (b : RankedStation S R). b.stop.stops ≡ 0) bs
            → AllByRecursion (λ (r : RankedReport S R). HasNoFault r.end) (first ∷ rest) → AllByRecursion (λ (r : RankedReport S R). IsEndDone r.end) reports
        by [] are' begins' ends' = absurd are'
        by (b ∷ bs) are' begins' ends' =
            let zero = quiet first.end b are'.0.ends ends'.0 begins'.0 in
            let stays = stops-stay bs rest first.station.stop are'.1 begins'.1 ends'.1 in
            subst (λ (rs : List (RankedReport S R)). AllByRecursion (λ (r : RankedReport S R). IsEndDone r.end) rs) (sym stands)
            (own first.end b are'.0.ends ends'.0 (stays ∙ zero), all-done bs rest first.station.stop are'.1 begins'.1 ends'.1 zero exact)

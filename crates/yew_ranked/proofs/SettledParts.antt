-- The seats of all workers of an ordered search, once they have worked: they are of the shared objects, with the whole shares.
use Rattle.std.proofs.Common.{◌≡◌, ℕ, suc, ◌+◌, ◌<◌, ◌≤◌, ◌⊎◌, ◌∙◌, true, List, [], ◌∷◌, ◌++◌, All, Contains, Option, Some, None}
use Rattle.std.proofs.Common.{map, length, refl, sym, ap, subst, append-nil, append_assoc, arith}
use Rattle.std.specs.List.{AllByRecursion, flat_map}
use Rattle.yew_best.specs.Seats.{BestId, SeatView}
use Rattle.yew_crew.specs.OpenSeats.{OpenId, OpenSeatView}
use Rattle.yew_laws.specs.SearchTree.{SearchTree}
use Rattle.yew_walk.specs.LogViews.{LogView}
use Rattle.yew_walk.specs.declared.hand.Hand.{Hand}
use Rattle.yew_ranked.specs.ClaimSeats.{ClaimsId, ClaimSeatView, AreBelow}
use Rattle.yew_ranked.specs.Joining.{claims_with, stop_with, hands_of, fault_in, IsAt}
use Rattle.yew_ranked.specs.Searching.{HasWorked, IsSettled}
use Rattle.yew_ranked.specs.Starting.{IsSeated}
use Rattle.yew_ranked.specs.Tasks.{Numbered, numbered_task}
use Rattle.yew_ranked.specs.Whole.{AreFresh, AreRankedReports, HasRankedWorked, ranked_stations, best_with, claimed_by, AllDone}
use Rattle.yew_ranked.specs.declared.ending.Settled.{Settled}
use Rattle.yew_ranked.specs.declared.station.RankedReport.{RankedReport}
use Rattle.yew_ranked.specs.declared.station.RankedShared.{RankedShared}
use Rattle.yew_ranked.specs.declared.station.RankedStation.{RankedStation}
use Rattle.yew_ranked.proofs.AllEnds.{none-faulty, all-done-first}

module _ {S R : Type 0} where
  -- the shares of joined seats are added up
  best-share : (shared : RankedShared) (reports : List (RankedReport S R)) (seat : SeatView) → AllByRecursion (λ (r : RankedReport S R). IsSeated shared 1 r.station) reports
      → (best_with seat (ranked_stations reports)).share ≡ seat.share + length reports
  best-share shared [] seat are = omega arith
  best-share shared (r ∷ rs) seat are = let more = best-share shared rs (best_with seat (r.station ∷ [])) are.1 in let one = are.0.best_share in omega arith

  claims-share : (shared : RankedShared) (reports : List (RankedReport S R)) (seat : ClaimSeatView) → AllByRecursion (λ (r : RankedReport S R). IsSeated shared 1 r.station) reports
      → (claims_with seat (ranked_stations reports)).share ≡ seat.share + length reports
  claims-share shared [] seat are = omega arith
  claims-share shared (r ∷ rs) seat are = let more = claims-share shared rs (claims_with seat (r.station ∷ [])) are.1 in let one = are.0.claims_share in omega arith

  stop-share : (shared : RankedShared) (reports : List (RankedReport S R)) (seat : OpenSeatView) → AllByRecursion (λ (r : RankedReport S R). IsSeated shared 1 r.station) reports
      → (stop_with seat (ranked_stations reports)).share ≡ seat.share + length reports
  stop-share shared [] seat are = omega arith
  stop-share shared (r ∷ rs) seat are = let more = stop-share shared rs (stop_with seat (r.station ∷ [])) are.1 in let one = are.0.stop_share in omega arith

  -- joined seats are of the object of the first
  best-of : (stations : List (RankedStation S R)) (seat : SeatView) → (best_with seat stations).best ≡ seat.best
  best-of [] seat = refl
  best-of (s ∷ ss) seat = best-of ss (best_with seat (s ∷ []))

  -- the numbers that joined seats have claimed
  claims-claimed : (stations : List (RankedStation S R)) (seat : ClaimSeatView) → (claims_with seat stations).claimed ≡ seat.claimed ++ claimed_by stations
  claims-claimed [] seat = sym (append-nil seat.claimed)
  claims-claimed (s ∷ ss) seat = claims-claimed ss (claims_with seat (s ∷ [])) ∙ append_assoc seat.claimed s.claims.claimed (claimed_by ss)

  pub all-claimed : (reports : List (RankedReport S R)) (first : RankedReport S R) (rest : List (RankedReport S R)) (count : ℕ) → reports ≡ first ∷ rest
      → AreBelow count (claims_with first.station.claims (ranked_stations rest)).claimed → AreBelow count (claimed_by (ranked_stations reports))
  all-claimed reports first rest count stands are =
      subst (λ (rs : List (RankedReport S R)). AreBelow count (claimed_by (ranked_stations rs))) (sym stands)
      (subst (AreBelow count) (claims-claimed (ranked_stations rest) first.station.claims) are)

  fresh-stops : (none : S) (seen : R → LogView) (number : ℕ) (stations : List (RankedStation S R)) → AreFresh none seen number stations
      → AllByRecursion (λ (b : RankedStation S R). b.stop.stops ≡ 0) stations
  fresh-stops none seen number [] are = tt
  fresh-stops none seen number (s ∷ ss) are = (are.0.no_stop, fresh-stops none seen (suc number) ss are.1)

  fits-hands : (fits : S → Type 0) (reports : List (RankedReport S R)) → AllByRecursion (λ (r : RankedReport S R). fits r.station.hand.sum) reports
      → AllByRecursion (λ (h : Hand S). fits h.sum) (hands_of (ranked_stations reports))
  fits-hands fits [] are = tt
  fits-hands fits (r ∷ rs) are = (are.0, fits-hands fits rs are.1)

  many-hands : (reports : List (RankedReport S R)) → length (hands_of (ranked_stations reports)) ≡ length reports
  many-hands [] = refl
  many-hands (r ∷ rs) = ap suc (many-hands rs)

module _ {N S R : Type 0} (t : SearchTree N) (join : S → S → S) (none : S) (of : N → ℕ → S) (seen : R → LogView) (fits : S → Type 0) (depth workers : ℕ) (shared : RankedShared) where
  seated-after : (befores : List (RankedStation S R)) (reports : List (RankedReport S R)) → AllByRecursion (IsSeated shared 1) befores
      → AreRankedReports t join none of seen depth (map numbered_task shared.tasks.items) befores reports → AllByRecursion (λ (r : RankedReport S R). IsSeated shared 1 r.station) reports
  seated-after [] [] seated are = tt
  seated-after [] (r ∷ rs) seated are = absurd are
  seated-after (b ∷ bs) [] seated are = absurd are
  seated-after (b ∷ bs) (r ∷ rs) seated are = (
    record {
      of_best = are.0.same.best ∙ seated.0.of_best;
      best_share = are.0.same.best_share ∙ seated.0.best_share;
      of_claims = are.0.same.claims ∙ seated.0.of_claims;
      claims_share = are.0.same.claims_share ∙ seated.0.claims_share;
      of_stop = are.0.same.stop ∙ seated.0.of_stop;
      stop_share = are.0.same.stop_share ∙ seated.0.stop_share;
    },
    seated-after bs rs seated.1 are.1,
  )

  same-length : (befores : List (RankedStation S R)) (reports : List (RankedReport S R))
      → AreRankedReports t join none of seen depth (map numbered_task shared.tasks.items) befores reports → length reports ≡ length befores
  same-length [] [] are = refl
  same-length [] (r ∷ rs) are = absurd are
  same-length (b ∷ bs) [] are = absurd are
  same-length (b ∷ bs) (r ∷ rs) are = ap suc (same-length bs rs are.1)

  are-at : (reports : List (RankedReport S R)) → AllByRecursion (λ (r : RankedReport S R). IsSeated shared 1 r.station) reports
      → AllByRecursion (λ (r : RankedReport S R). IsAt shared.best shared.claims shared.stop r.station) reports
  are-at [] are = tt
  are-at (r ∷ rs) are = (record { of_best = are.0.of_best; of_claims = are.0.of_claims; of_stop = are.0.of_stop }, are-at rs are.1)

  module _ (reports : List (RankedReport S R)) (w : HasWorked t join none of seen fits depth workers shared reports) where
    all-seated : AllByRecursion (λ (r : RankedReport S R). IsSeated shared 1 r.station) reports
    all-seated = seated-after w.begun reports w.seated w.are_reports

    pub reports-at : AllByRecursion (λ (r : RankedReport S R). IsAt shared.best shared.claims shared.stop r.station) reports
    reports-at = are-at reports all-seated

    count-reports : length reports ≡ workers
    count-reports = same-length w.begun reports w.are_reports ∙ (ap length w.crew.stands ∙ w.crew.count)

    pub some-reports : 0 < length reports
    some-reports = let a = same-length w.begun reports w.are_reports ∙ ap length w.crew.stands in omega arith

    -- what the laws ask for
    pub has-worked : HasRankedWorked t join none of seen depth (map numbered_task shared.tasks.items) workers reports
    has-worked = record { begun = w.begun; crew = w.crew; are_reports = w.are_reports }

    module _ (first : RankedReport S R) (rest : List (RankedReport S R)) (stands : reports ≡ first ∷ rest) where
      -- the joined seats have the whole shares
      parted : IsSeated shared 1 first.station × AllByRecursion (λ (r : RankedReport S R). IsSeated shared 1 r.station) rest
      parted = subst (λ (rs : List (RankedReport S R)). AllByRecursion (λ (r : RankedReport S R). IsSeated shared 1 r.station) rs) stands all-seated

      pub whole-best : (best_with first.station.best (ranked_stations rest)).share ≡ shared.best.seats
      whole-best = let a = best-share shared rest first.station.best parted.1 in let b = parted.0.best_share in let c = ap length stands in let d = count-reports in let e = w.best_seats in omega arith

      pub whole-claims : (claims_with first.station.claims (ranked_stations rest)).share ≡ shared.claims.seats
      whole-claims = let a = claims-share shared rest first.station.claims parted.1 in let b = parted.0.claims_share in let c = ap length stands in let d = count-reports in let e = w.claims_seats in omega arith

      pub whole-stop : (stop_with first.station.stop (ranked_stations rest)).share ≡ shared.stop.seats
      whole-stop = let a = stop-share shared rest first.station.stop parted.1 in let b = parted.0.stop_share in let c = ap length stands in let d = count-reports in let e = w.stop_seats in omega arith

      pub best-whole : (best_with first.station.best (ranked_stations rest)).share ≡ (best_with first.station.best (ranked_stations rest)).best.seats
      best-whole = whole-best ∙ sym (ap (λ (b : BestId). b.seats) (best-of (ranked_stations rest) first.station.best ∙ parted.0.of_best))

    module _ (settled : Settled S R) (is : IsSettled reports settled) where
      begun-stops : AllByRecursion (λ (b : RankedStation S R). b.stop.stops ≡ 0) w.begun
      begun-stops = subst (AllByRecursion (λ (b : RankedStation S R). b.stop.stops ≡ 0)) (sym w.crew.stands)
          (w.crew.first_is.no_stop, fresh-stops none seen 2 w.crew.others w.crew.others_are)

      -- where no fault is found, every worker found no task left
      pub settled-done : settled.fault ≡ None → AllDone reports
      settled-done none_found =
          all-done-first t join none of seen depth (map numbered_task shared.tasks.items) w.begun reports is.seats.first is.seats.rest is.seats.stands w.are_reports begun-stops
          (none-faulty reports (sym is.fault ∙ none_found)) is.saw

      pub settled-fits : AllByRecursion (λ (h : Hand S). fits h.sum) settled.hands.items
      settled-fits = subst (AllByRecursion (λ (h : Hand S). fits h.sum)) (sym is.hands) (fits-hands fits reports w.fit)

      pub some-hands : 0 < length settled.hands.items
      some-hands = let a = ap length is.hands ∙ many-hands reports in let b = some-reports in omega arith

-- How the seats of the first worker of an ordered search are shared out.
use Rattle.std.proofs.Common.{◌≡◌, ℕ, suc, ◌+◌, ◌-◌, ◌<◌, ◌≤◌, ◌∙◌, List, [], ◌∷◌, ◌++◌, length, slice_index_or, refl, sym, ap, subst, arith}
use Rattle.std.specs.List.{AllByRecursion}
use Rattle.std.proofs.lemmas.List.{length-append}
use Rattle.yew_best.specs.Seats.{SeatView}
use Rattle.yew_crew.specs.OpenSeats.{OpenSeatView}
use Rattle.yew_laws.specs.SearchTree.{SearchTree}
use Rattle.yew_walk.specs.LogViews.{LogView}
use Rattle.yew_ranked.specs.ClaimSeats.{ClaimSeatView}
use Rattle.yew_ranked.specs.Starting.{IsSeated, with_shares, IsNewStation, AreNew, IsSharing, AreStations}
use Rattle.yew_ranked.specs.Stations.{IsRankedReady, IsRankedReport}
use Rattle.yew_ranked.specs.Tasks.{Numbered}
use Rattle.yew_ranked.specs.Whole.{AreFresh, AreRankedReports}
use Rattle.yew_ranked.specs.declared.station.RankedReport.{RankedReport}
use Rattle.yew_ranked.specs.declared.station.RankedShared.{RankedShared}
use Rattle.yew_ranked.specs.declared.station.RankedStation.{RankedStation}

module _ {S R : Type 0} where
  -- the shares that a seated station has are its own
  shares-own : (shared : RankedShared) (share : ℕ) (station : RankedStation S R) → IsSeated shared share station → station ≡ with_shares share station
  shares-own shared share station is =
      let best = ap (λ (n : ℕ). record station.best { share = n }) is.best_share in
      let claims = ap (λ (n : ℕ). record station.claims { share = n }) is.claims_share in
      let stop = ap (λ (n : ℕ). record station.stop { share = n }) is.stop_share in
      ap (λ (b : SeatView). record station { best = b; claims = station.claims; stop = station.stop }) best
      ∙ (ap (λ (c : ClaimSeatView). record station { best = record station.best { share = share }; claims = c; stop = station.stop }) claims
      ∙ ap (λ (s : OpenSeatView). record station { best = record station.best { share = share }; claims = record station.claims { share = share }; stop = s }) stop)

  module _ (none : S) (seen : R → LogView) (shared : RankedShared) where
    are-new-push : (number : ℕ) (stations : List (RankedStation S R)) (station : RankedStation S R) → AreNew none seen shared number stations
        → IsNewStation none seen shared (number + length stations) station → AreNew none seen shared number (stations ++ station ∷ [])
    are-new-push number [] station are is = (subst (λ n. IsNewStation none seen shared n station) (let e : number + 0 ≡ number = omega arith in e) is, tt)
    are-new-push number (s ∷ ss) station are is =
        (are.0, are-new-push (suc number) ss station are.1 (subst (λ n. IsNewStation none seen shared n station) (let e : number + suc (length ss) ≡ suc number + length ss = omega arith in e) is))

    module _ (workers : ℕ) (begun : RankedStation S R) where
      pub sharing-begins : IsSeated shared workers begun → IsSharing none seen shared workers begun begun []
      sharing-begins is = record { share = workers; now_is = shares-own shared workers begun is; left = omega arith; others_are = tt }

      -- one more was split off
      pub sharing-next : (now next : RankedStation S R) (others : List (RankedStation S R)) (number : ℕ) (station : RankedStation S R)
          → IsSharing none seen shared workers begun now others → number ≡ length others + 2 → length others < workers
          → next ≡ record now { best = record now.best { share = now.best.share - 1 }; claims = record now.claims { share = now.claims.share - 1 }; stop = record now.stop { share = now.stop.share - 1 } }
          → IsNewStation none seen shared number station → IsSharing none seen shared workers begun next (others ++ station ∷ [])
      sharing-next now next others number station w is few next_is new = record {
        share = w.share - 1;
        now_is = next_is
            ∙ ap (λ (x : RankedStation S R). record x { best = record x.best { share = x.best.share - 1 }; claims = record x.claims { share = x.claims.share - 1 }; stop = record x.stop { share = x.stop.share - 1 } }) w.now_is;
        left = (let a = length-append others (station ∷ []) in let b = w.left in omega arith);
        others_are = are-new-push 2 others station w.others_are (subst (λ n. IsNewStation none seen shared n station) (let e : number ≡ 2 + length others = omega arith in e) new);
      }

      pub sharing-ends : (now : RankedStation S R) (others stations : List (RankedStation S R)) → IsSharing none seen shared workers begun now others
          → suc (length others) ≡ workers → stations ≡ now ∷ others → AreStations none seen shared workers begun stations
      sharing-ends now others stations w count stands = record {
        others = others;
        stands = stands ∙ ap (λ s. s ∷ others) (w.now_is ∙ ap (λ n. with_shares n begun) (let l = w.left in let e : w.share ≡ 1 = omega arith in e));
        count = count;
        others_are = w.others_are;
      }

      -- what the seats that are left say of the shares
      module _ (now : RankedStation S R) (others : List (RankedStation S R)) (w : IsSharing none seen shared workers begun now others) (seated : IsSeated shared workers begun) where
        pub sharing-best : now.best.best ≡ shared.best
        sharing-best = ap (λ (s : RankedStation S R). s.best.best) w.now_is ∙ seated.of_best

        pub sharing-claims : now.claims.claims ≡ shared.claims
        sharing-claims = ap (λ (s : RankedStation S R). s.claims.claims) w.now_is ∙ seated.of_claims

        pub sharing-stop : now.stop.tasks ≡ shared.stop
        sharing-stop = ap (λ (s : RankedStation S R). s.stop.tasks) w.now_is ∙ seated.of_stop

        pub sharing-best_share : suc (length others) < workers → 1 < now.best.share
        sharing-best_share few = let a = ap (λ (s : RankedStation S R). s.best.share) w.now_is in let b = w.left in omega arith

        pub sharing-claims_share : suc (length others) < workers → 1 < now.claims.share
        sharing-claims_share few = let a = ap (λ (s : RankedStation S R). s.claims.share) w.now_is in let b = w.left in omega arith

        pub sharing-stop_share : suc (length others) < workers → 1 < now.stop.share
        sharing-stop_share few = let a = ap (λ (s : RankedStation S R). s.stop.share) w.now_is in let b = w.left in omega arith

        pub sharing-claimed : begun.claims.claimed ≡ [] → now.claims.claimed ≡ []
        sharing-claimed none_claimed = ap (λ (s : RankedStation S R). s.claims.claimed) w.now_is ∙ none_claimed

    -- new stations are fresh, seated, and ready
    pub new-fresh : (number : ℕ) (stations : List (RankedStation S R)) → AreNew none seen shared number stations → AreFresh none seen number stations
    new-fresh number [] are = tt
    new-fresh number (s ∷ ss) are = (are.0.fresh, new-fresh (suc number) ss are.1)

    pub new-seated : (number : ℕ) (stations : List (RankedStation S R)) → AreNew none seen shared number stations → AllByRecursion (IsSeated shared 1) stations
    new-seated number [] are = tt
    new-seated number (s ∷ ss) are = (are.0.seated, new-seated (suc number) ss are.1)

    pub new-ready : (fits : S → Type 0) → fits none → (number : ℕ) (stations : List (RankedStation S R)) → AreNew none seen shared number stations
        → AllByRecursion (IsRankedReady fits shared) stations
    new-ready fits f number [] are = tt
    new-ready fits f number (s ∷ ss) are = (
      record {
        of_best = are.0.seated.of_best;
        of_claims = are.0.seated.of_claims;
        of_stop = are.0.seated.of_stop;
        one_share = are.0.seated.claims_share;
        none_claimed = are.0.fresh.none_claimed;
        space = are.0.space;
        fits_sum = subst fits (sym are.0.fresh.sum_is) f;
      },
      new-ready fits f (suc number) ss are.1,
    )

-- where each report, place by place, is that of its station, there is one report for each station
pub are-ranked_reports : {N S R : Type 0} (t : SearchTree N) (join : S → S → S) (none : S) (of : N → ℕ → S) (seen : R → LogView) (depth : ℕ) (tasks : List Numbered)
    (stations : List (RankedStation S R)) (reports : List (RankedReport S R)) → length reports ≡ length stations
    → ((i : ℕ) (d : RankedStation S R) (e : RankedReport S R) → i < length stations → IsRankedReport t join none of seen tasks (slice_index_or stations i d) (slice_index_or reports i e))
    → AreRankedReports t join none of seen depth tasks stations reports
are-ranked_reports t join none of seen depth tasks [] [] len each = tt
are-ranked_reports t join none of seen depth tasks [] (r ∷ rs) len each = absurd (omega arith)
are-ranked_reports t join none of seen depth tasks (b ∷ bs) [] len each = absurd (omega arith)
are-ranked_reports t join none of seen depth tasks (b ∷ bs) (r ∷ rs) len each =
    (each 0 b r (omega arith), are-ranked_reports t join none of seen depth tasks bs rs (omega arith) (λ i d e h. each (suc i) d e (omega arith)))

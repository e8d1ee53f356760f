-- What the workers of an ordered search carried, joined one report after another.
use Rattle.std.proofs.Common.{◌≡◌, List, [], ◌∷◌, ◌++◌, ◌∙◌, Option, refl, sym, ap, append-nil, append_assoc, subst}
use Rattle.std.proofs.lemmas.List.{map-append}
use Rattle.yew_best.specs.Seats.{SeatView}
use Rattle.yew_crew.specs.Joining.{first_fault}
use Rattle.yew_crew.specs.OpenSeats.{OpenSeatView}
use Rattle.yew_walk.specs.declared.fault.SearchFault.{SearchFault}
use Rattle.yew_ranked.specs.ClaimSeats.{ClaimSeatView}
use Rattle.yew_ranked.specs.Joining.{claims_with, stop_with, hands_of, logs_of, fault_in, IsJoined, IsFirst, AreParts}
use Rattle.yew_ranked.specs.Whole.{best_with, ranked_stations}
use Rattle.yew_ranked.specs.declared.joining.Parts.{Parts}
use Rattle.yew_ranked.specs.declared.station.RankedReport.{RankedReport}
use Rattle.yew_ranked.specs.declared.station.RankedStation.{RankedStation}

module _ {S R : Type 0} where
  stations-append : (reports more : List (RankedReport S R)) → ranked_stations (reports ++ more) ≡ ranked_stations reports ++ ranked_stations more
  stations-append reports more = map-append (λ (r : RankedReport S R). r.station) reports more

  best_with-last : (stations : List (RankedStation S R)) (seat : SeatView) (last : RankedStation S R)
      → best_with seat (stations ++ last ∷ []) ≡ best_with (best_with seat stations) (last ∷ [])
  best_with-last [] seat last = refl
  best_with-last (s ∷ ss) seat last = best_with-last ss _ last

  claims_with-last : (stations : List (RankedStation S R)) (seat : ClaimSeatView) (last : RankedStation S R)
      → claims_with seat (stations ++ last ∷ []) ≡ claims_with (claims_with seat stations) (last ∷ [])
  claims_with-last [] seat last = refl
  claims_with-last (s ∷ ss) seat last = claims_with-last ss _ last

  stop_with-last : (stations : List (RankedStation S R)) (seat : OpenSeatView) (last : RankedStation S R)
      → stop_with seat (stations ++ last ∷ []) ≡ stop_with (stop_with seat stations) (last ∷ [])
  stop_with-last [] seat last = refl
  stop_with-last (s ∷ ss) seat last = stop_with-last ss _ last

  fault_in-last : (reports : List (RankedReport S R)) (fault : Option SearchFault) (last : RankedReport S R)
      → fault_in fault (reports ++ last ∷ []) ≡ first_fault (fault_in fault reports) last.end
  fault_in-last [] fault last = refl
  fault_in-last (r ∷ rs) fault last = fault_in-last rs (first_fault fault r.end) last

  -- a part more at the end
  part-last : {X : Type 0} (reports : List (RankedReport S R)) (last : RankedReport S R) (old now after : List X) (f : RankedStation S R → X) (g : List (RankedStation S R) → List X)
      → ((xs ys : List (RankedStation S R)) → g (xs ++ ys) ≡ g xs ++ g ys) → now ≡ old ++ g (ranked_stations reports)
      → after ≡ now ++ g (ranked_stations (last ∷ [])) → after ≡ old ++ g (ranked_stations (reports ++ last ∷ []))
  part-last reports last old now after f g appends e h =
      h ∙ (ap (λ l. l ++ g (ranked_stations (last ∷ []))) e ∙ (append_assoc old (g (ranked_stations reports)) (g (ranked_stations (last ∷ [])))
      ∙ ap (λ l. old ++ l) (sym (ap g (stations-append reports (last ∷ [])) ∙ appends (ranked_stations reports) (ranked_stations (last ∷ []))))))

  -- a report more at the end
  pub joined-last : (before now after : Parts S R) (reports : List (RankedReport S R)) (last : RankedReport S R) → IsJoined before reports now
      → IsJoined now (last ∷ []) after → IsJoined before (reports ++ last ∷ []) after
  joined-last before now after reports last a b =
      let e = stations-append reports (last ∷ []) in
      record {
        best = b.best ∙ (ap (λ (seat : SeatView). best_with seat (ranked_stations (last ∷ []))) a.best ∙ (sym (best_with-last (ranked_stations reports) before.best last.station) ∙ ap (best_with before.best) (sym e)));
        claims = b.claims ∙ (ap (λ (seat : ClaimSeatView). claims_with seat (ranked_stations (last ∷ []))) a.claims
            ∙ (sym (claims_with-last (ranked_stations reports) before.claims last.station) ∙ ap (claims_with before.claims) (sym e)));
        stop = b.stop ∙ (ap (λ (seat : OpenSeatView). stop_with seat (ranked_stations (last ∷ []))) a.stop ∙ (sym (stop_with-last (ranked_stations reports) before.stop last.station) ∙ ap (stop_with before.stop) (sym e)));
        hands = part-last reports last before.hands.items now.hands.items after.hands.items (λ (s : RankedStation S R). s.hand) hands_of (map-append (λ (s : RankedStation S R). s.hand)) a.hands b.hands;
        logs = part-last reports last before.logs.items now.logs.items after.logs.items (λ (s : RankedStation S R). s.log) logs_of (map-append (λ (s : RankedStation S R). s.log)) a.logs b.logs;
        fault = b.fault ∙ (ap (λ f. first_fault f last.end) a.fault ∙ sym (fault_in-last reports before.fault last));
      }

  -- no report
  pub joined-none : (parts : Parts S R) (reports : List (RankedReport S R)) → reports ≡ [] → IsJoined parts reports parts
  joined-none parts reports e = subst (λ (rs : List (RankedReport S R)). IsJoined parts rs parts) (sym e) record {
    best = refl;
    claims = refl;
    stop = refl;
    hands = sym (append-nil parts.hands.items);
    logs = sym (append-nil parts.logs.items);
    fault = refl;
  }

  -- the reports behind the first one
  pub parts-joined : (reports : List (RankedReport S R)) (first : RankedReport S R) (rest : List (RankedReport S R)) (begun parts : Parts S R)
      → reports ≡ first ∷ rest → IsFirst first begun → IsJoined begun rest parts → AreParts reports parts
  parts-joined reports first rest begun parts e a b =
      subst (λ (rs : List (RankedReport S R)). AreParts rs parts) (sym e) record {
        first = first;
        rest = rest;
        stands = refl;
        best = b.best ∙ ap (λ (seat : SeatView). best_with seat (ranked_stations rest)) a.best;
        claims = b.claims ∙ ap (λ (seat : ClaimSeatView). claims_with seat (ranked_stations rest)) a.claims;
        stop = b.stop ∙ ap (λ (seat : OpenSeatView). stop_with seat (ranked_stations rest)) a.stop;
        hands = b.hands ∙ ap (λ l. l ++ hands_of (ranked_stations rest)) a.hands;
        logs = b.logs ∙ ap (λ l. l ++ logs_of (ranked_stations rest)) a.logs;
        fault = b.fault ∙ ap (λ f. fault_in f rest) a.fault;
      }

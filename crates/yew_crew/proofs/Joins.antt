-- What is joined one report after another.
use Rattle.std.proofs.Common.{◌≡◌, ◌<◌, List, [], ◌∷◌, ◌++◌, ◌∙◌, Option, length, slice_index_or, arith, refl, sym, ap, ap₂, append-nil, append_assoc, subst}
use Rattle.std.specs.List.{AllByRecursion, remove}
use Rattle.std.proofs.lemmas.List.{map-append}
use Rattle.yew_best.specs.Seats.{SeatView}
use Rattle.yew_walk.specs.declared.fault.SearchFault.{SearchFault}
use Rattle.yew_crew.specs.Crews.{best_with, tasks_with, stations_of}
use Rattle.yew_crew.specs.Joining.{first_fault, fault_in, passes_of, seats_of, hands_of, logs_of, IsJoined, IsFirst, AreParts}
use Rattle.yew_crew.specs.OpenSeats.{OpenSeatView}
use Rattle.yew_crew.specs.declared.joining.Parts.{Parts}
use Rattle.yew_crew.specs.declared.station.Report.{Report}
use Rattle.yew_crew.specs.declared.station.Station.{Station}
use Rattle.yew_crew.proofs.Rows.{best_with_last, tasks_with_last}

-- the first member of a list, taken off
pub removed-first : {X : Type 0} (xs : List X) (x : X) (ys : List X) → 0 < length xs → x ≡ slice_index_or xs 0 x → ys ≡ remove xs 0 → xs ≡ x ∷ ys
removed-first [] x ys h e f = absurd (omega arith)
removed-first (z ∷ zs) x ys h e f = ap₂ (λ a b. a ∷ b) (sym e) (sym f)

pub all_behind : {X : Type 0} (Q : X → Type 0) (xs : List X) (x : X) (ys : List X) → xs ≡ x ∷ ys → AllByRecursion Q xs → Q x × AllByRecursion Q ys
all_behind {X} Q xs x ys e a = subst (λ (zs : List X). AllByRecursion Q zs) e a

module _ {N S R : Type 0} where
  stations-append : (reports more : List (Report N S R)) → stations_of (reports ++ more) ≡ stations_of reports ++ stations_of more
  stations-append reports more = map-append (λ (r : Report N S R). r.station) reports more

  fault_in-last : (reports : List (Report N S R)) (fault : Option SearchFault) (last : Report N S R)
      → fault_in fault (reports ++ last ∷ []) ≡ first_fault (fault_in fault reports) last.end
  fault_in-last [] fault last = refl
  fault_in-last (r ∷ rs) fault last = fault_in-last rs (first_fault fault r.end) last

  -- a part more at the end
  part-last : {X : Type 0} (f : Station N S R → X) (reports : List (Report N S R)) (last : Report N S R) (old now after : List X) (g : List (Station N S R) → List X)
      → ((xs ys : List (Station N S R)) → g (xs ++ ys) ≡ g xs ++ g ys) → now ≡ old ++ g (stations_of reports) → after ≡ now ++ g (stations_of (last ∷ [])) → after ≡ old ++ g (stations_of (reports ++ last ∷ []))
  part-last f reports last old now after g appends e h =
      h ∙ (ap (λ l. l ++ g (stations_of (last ∷ []))) e ∙ (append_assoc old (g (stations_of reports)) (g (stations_of (last ∷ []))) ∙ ap (λ l. old ++ l) (sym (ap g (stations-append reports (last ∷ [])) ∙ appends (stations_of reports) (stations_of (last ∷ []))))))

  -- a report more at the end
  pub joined_last : (before now after : Parts N S R) (reports : List (Report N S R)) (last : Report N S R) → IsJoined before reports now
      → IsJoined now (last ∷ []) after → IsJoined before (reports ++ last ∷ []) after
  joined_last before now after reports last a b =
      let e = stations-append reports (last ∷ []) in
      record {
        best = b.best ∙ (ap (λ (seat : SeatView). best_with seat (stations_of (last ∷ []))) a.best ∙ (sym (best_with_last (stations_of reports) before.best last.station) ∙ ap (best_with before.best) (sym e)));
        tasks = b.tasks ∙ (ap (λ (seat : OpenSeatView). tasks_with seat (stations_of (last ∷ []))) a.tasks ∙ (sym (tasks_with_last (stations_of reports) before.tasks last.station) ∙ ap (tasks_with before.tasks) (sym e)));
        passes = part-last (λ (s : Station N S R). s.pool) reports last before.passes.items now.passes.items after.passes.items passes_of (map-append (λ (s : Station N S R). s.pool)) a.passes b.passes;
        seats = part-last (λ (s : Station N S R). s.mail) reports last before.seats.items now.seats.items after.seats.items seats_of (map-append (λ (s : Station N S R). s.mail)) a.seats b.seats;
        hands = part-last (λ (s : Station N S R). s.hand) reports last before.hands.items now.hands.items after.hands.items hands_of (map-append (λ (s : Station N S R). s.hand)) a.hands b.hands;
        logs = part-last (λ (s : Station N S R). s.log) reports last before.logs.items now.logs.items after.logs.items logs_of (map-append (λ (s : Station N S R). s.log)) a.logs b.logs;
        fault = b.fault ∙ (ap (λ f. first_fault f last.end) a.fault ∙ sym (fault_in-last reports before.fault last));
      }

  -- no report
  pub joined-none : (parts : Parts N S R) (reports : List (Report N S R)) → reports ≡ [] → IsJoined parts reports parts
  joined-none parts reports e = subst (λ (rs : List (Report N S R)). IsJoined parts rs parts) (sym e) record {
    best = refl;
    tasks = refl;
    passes = sym (append-nil parts.passes.items);
    seats = sym (append-nil parts.seats.items);
    hands = sym (append-nil parts.hands.items);
    logs = sym (append-nil parts.logs.items);
    fault = refl;
  }

  -- the reports behind the first one
  pub parts-joined : (reports : List (Report N S R)) (first : Report N S R) (rest : List (Report N S R)) (begun parts : Parts N S R)
      → reports ≡ first ∷ rest → IsFirst first begun → IsJoined begun rest parts → AreParts reports parts
  parts-joined reports first rest begun parts e a b =
      subst (λ (rs : List (Report N S R)). AreParts rs parts) (sym e) record {
        first = first;
        rest = rest;
        stands = refl;
        best = b.best ∙ ap (λ (seat : SeatView). best_with seat (stations_of rest)) a.best;
        tasks = b.tasks ∙ ap (λ (seat : OpenSeatView). tasks_with seat (stations_of rest)) a.tasks;
        passes = b.passes ∙ ap (λ l. l ++ passes_of (stations_of rest)) a.passes;
        seats = b.seats ∙ ap (λ l. l ++ seats_of (stations_of rest)) a.seats;
        hands = b.hands ∙ ap (λ l. l ++ hands_of (stations_of rest)) a.hands;
        logs = b.logs ∙ ap (λ l. l ++ logs_of (stations_of rest)) a.logs;
        fault = b.fault ∙ ap (λ f. fault_in f rest) a.fault;
      }

-- Lists that grow at their end, and one report for each station.
use Rattle.std.proofs.Common.{◌≡◌, ℕ, ◌<◌, List, [], ◌∷◌, ◌++◌, length, slice_index_or, arith, zero, suc, refl, sym, subst}
use Rattle.std.specs.List.{AllByRecursion}
use Rattle.yew_crew.specs.declared.station.Station.{Station}
use Rattle.yew_crew.specs.declared.station.Report.{Report}
use Rattle.yew_best.specs.Seats.{SeatView}
use Rattle.yew_crew.specs.OpenSeats.{OpenSeatView}
use Rattle.yew_crew.specs.Crews.{AreReports, best_with, tasks_with}
use Rattle.yew_crew.specs.Reports.{IsReport}
use Rattle.yew_crew.specs.Stations.{Searched}

-- what holds of all members of a list holds of the last one and of the others
pub all_but_last : {X : Type 0} (Q : X → Type 0) (xs : List X) (x : X) → AllByRecursion Q (xs ++ x ∷ []) → AllByRecursion Q xs × Q x
all_but_last Q [] x a = (tt, a.0)
all_but_last Q (y ∷ ys) x a = let rest = all_but_last Q ys x a.1 in ((a.0, rest.0), rest.1)

-- where each report, place by place, is that of its station, there is one report for each station
pub are_reports : {N S R : Type 0} (s : Searched S R N) (stations : List (Station N S R)) (reports : List (Report N S R))
    → length reports ≡ length stations
    → ((i : ℕ) (d : Station N S R) (e : Report N S R) → i < length stations → IsReport s (slice_index_or stations i d) (slice_index_or reports i e)) → AreReports s stations reports
are_reports s [] [] len each = tt
are_reports s [] (r ∷ rs) len each = absurd (omega arith)
are_reports s (b ∷ bs) [] len each = absurd (omega arith)
are_reports s (b ∷ bs) (r ∷ rs) len each = (each 0 b r (omega arith), are_reports s bs rs (omega arith) (λ i d e h. each (suc i) d e (omega arith)))

-- what holds of all members of a list holds of the one at a place
pub all_at : {X : Type 0} (Q : X → Type 0) (xs : List X) (i : ℕ) (x : X) → AllByRecursion Q xs → i < length xs → x ≡ slice_index_or xs i x → Q x
all_at Q [] i x a h e = absurd (omega arith)
all_at Q (y ∷ ys) zero x a h e = subst Q (sym e) a.0
all_at Q (y ∷ ys) (suc i) x a h e = all_at Q ys i x a.1 (omega arith) e

-- a station more at the end is joined last
pub best_with_last : {N S R : Type 0} (stations : List (Station N S R)) (seat : SeatView) (last : Station N S R)
    → best_with seat (stations ++ last ∷ []) ≡ best_with (best_with seat stations) (last ∷ [])
best_with_last [] seat last = refl
best_with_last (s ∷ ss) seat last = best_with_last ss _ last

pub tasks_with_last : {N S R : Type 0} (stations : List (Station N S R)) (seat : OpenSeatView) (last : Station N S R)
    → tasks_with seat (stations ++ last ∷ []) ≡ tasks_with (tasks_with seat stations) (last ∷ [])
tasks_with_last [] seat last = refl
tasks_with_last (s ∷ ss) seat last = tasks_with_last ss _ last

-- a station more at the end, and its report
pub reports_push : {N S R : Type 0} (s : Searched S R N) (stations : List (Station N S R)) (reports : List (Report N S R)) (station : Station N S R) (report : Report N S R)
    → AreReports s stations reports → IsReport s station report → AreReports s (stations ++ station ∷ []) (reports ++ report ∷ [])
reports_push s [] [] b r are is = (is, tt)
reports_push s [] (q ∷ qs) b r are is = absurd are
reports_push s (u ∷ ts) [] b r are is = absurd are
reports_push s (u ∷ ts) (q ∷ qs) b r are is = (are.0, reports_push s ts qs b r are.1 is)

-- what holds at each place holds of all members
pub all_from : {X : Type 0} (Q : X → Type 0) (xs : List X) → ((i : ℕ) (e : X) → i < length xs → Q (slice_index_or xs i e)) → AllByRecursion Q xs
all_from Q [] each = tt
all_from Q (x ∷ xs) each = (each 0 x (omega arith), all_from Q xs (λ i e h. each (suc i) e (omega arith)))

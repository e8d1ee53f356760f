-- Once the seats are joined, the first worker's seat knows all that this worker noted.
use Rattle.std.proofs.Common.{◌==◌, ℕ, List, [], ◌∷◌, ◌++◌, sym, ap, ap₂, subst}
use Rattle.std.specs.List.{AllByRecursion, Contains}
use Rattle.std.proofs.lemmas.List.Elements.{Contains-append_left, Contains-append_right}
use Rattle.yew_best.specs.Seats.{SeatView}
use Rattle.yew_laws.specs.Bag.{SameBag}
use Rattle.yew_laws.proofs.Bags.{same-part, same-sym, same-trans, same-is}
use Rattle.yew_laws.proofs.Members.{Contains-head, Contains-tail}
use Rattle.yew_laws.proofs.PathTests.{nat_same, nat-is}
use Rattle.yew_laws.proofs.Weights.{part-all}
use Rattle.yew_log.specs.Notes.{judgements, visits, cuts, values, held_values}
use Rattle.yew_log.specs.Segment.{entries}
use Rattle.yew_crew.specs.Crews.{best_with}
use Rattle.yew_crew.specs.Reports.{IsDone}
use Rattle.yew_crew.specs.Stations.{Searched}
use Rattle.yew_crew.specs.declared.station.Station.{Station}
use Rattle.yew_crew.proofs.LaterWalks.{IsKnown}
use Rattle.yew_crew.proofs.WorkDone.{held-dealt}

each-in : (xs ys : List ℕ) → ((x : ℕ) → Contains xs x → Contains ys x) → AllByRecursion (Contains ys) xs
each-in [] ys f = tt
each-in (x ∷ xs) ys f = (f x (Contains-head x xs), each-in xs ys (λ z c. f z (Contains-tail x xs z c)))

-- what holds of numbers holds of them in another order
in-order : (P : ℕ → Type 0) (xs ys : List ℕ) → SameBag ys xs → AllByRecursion P xs → AllByRecursion P ys
in-order P xs ys bag a = part-all ◌==◌ nat_same nat-is P (same-part bag) a

module _ {N S R : Type 0} where
  -- a joined seat has what its first part had
  pub joined-read : (rest : List (Station N S R)) (seat : SeatView) (x : ℕ) → Contains seat.read x → Contains (best_with seat rest).read x
  joined-read [] seat x c = c
  joined-read (s ∷ ss) seat x c = joined-read ss _ x (Contains-append_left seat.read s.best.read x c)

  pub joined-offered : (rest : List (Station N S R)) (seat : SeatView) (x : ℕ) → Contains seat.offered x → Contains (best_with seat rest).offered x
  joined-offered [] seat x c = c
  joined-offered (s ∷ ss) seat x c = joined-offered ss _ x (Contains-append_left seat.offered s.best.offered x c)

  pub known-before : (s : Searched S R N) (before after : Station N S R) (rest : List (Station N S R)) → (done : IsDone s before after) → IsKnown (entries done.segments.segments) (best_with after.best rest)
  known-before s before after rest done =
      let g = done.work.group in
      let notes = entries done.segments.segments in
      let seat = best_with after.best rest in
      let all_read : AllByRecursion (Contains seat.read) g.read =
      each-in g.read seat.read (λ x c. joined-read rest after.best x (subst (λ xs. Contains xs x) (sym done.work.reads) (Contains-append_right before.best.read g.read x c))) in
      let all_offered : AllByRecursion (Contains seat.offered) g.offered =
      each-in g.offered seat.offered (λ x c. joined-offered rest after.best x (subst (λ xs. Contains xs x) (sym done.work.offers) (Contains-append_right before.best.offered g.offered x c))) in
      let dealt : SameBag (held_values (judgements notes)) (held_values (visits notes ++ cuts notes)) = record { weighs = λ h. held-dealt h notes } in
      record {
        helds = in-order (Contains seat.read) g.read (held_values (judgements notes))
            (same-trans dealt (same-trans (same-is (ap held_values (sym (ap₂ ◌++◌ done.segments.visits_are done.segments.cuts_are)))) (same-sym done.work.balanced.read_are))) all_read;
        worths = in-order (Contains seat.offered) g.offered (values (visits notes)) (same-trans (same-is (ap values (sym done.segments.visits_are))) (same-sym done.work.balanced.offered_are)) all_offered;
      }

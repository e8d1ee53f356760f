-- What the pool and the mailboxes leave, with all that the workers took, is what the workers put, the root's task with it, and what they gave.
use Rattle.std.proofs.Common.{List, [], ◌∷◌, ◌++◌, ap, arith}
use Rattle.std.specs.List.{sum_by}
use Rattle.std.proofs.lemmas.List.{map-append}
use Rattle.std.proofs.lemmas.List.Sums.{sum_by-append}
use Rattle.yew_best.specs.Seats.{SeatView}
use Rattle.yew_laws.specs.Bag.{SameBag}
use Rattle.yew_laws.specs.Tasks.{Members}
use Rattle.yew_laws.specs.declared.problem.Task.{Task}
use Rattle.yew_laws.proofs.Bags.{same-map}
use Rattle.yew_mail.specs.Closing.{got_by, given_by}
use Rattle.yew_pool.specs.Passes.{all_put, all_took}
use Rattle.yew_stack.specs.Splits.{paths_of}
use Rattle.yew_walk.specs.LogViews.{LogView}
use Rattle.yew_crew.specs.Crews.{IsCrewWork}
use Rattle.yew_crew.specs.Groups.{Group}
use Rattle.yew_crew.specs.Joining.{passes_of, seats_of}
use Rattle.yew_crew.specs.OpenSeats.{OpenSeatView}
use Rattle.yew_crew.specs.Stations.{Searched}
use Rattle.yew_crew.specs.declared.station.Shared.{Shared}
use Rattle.yew_crew.specs.declared.station.Station.{Station}
use Rattle.yew_crew.proofs.CrewOver.{HasBegun, took-passes, put-passes, got-seats, given-seats}

module _ {N S R : Type 0} (members : Members N) (none : S) (seen : R → LogView) (shared : Shared N) (s : Searched S R N) (group : Group N S) (seat : SeatView) (tasks : OpenSeatView)
    (befores afters : List (Station N S R)) (begun : HasBegun members none seen shared befores) (work : IsCrewWork s group seat tasks befores afters) where
  pub pool-closed : (rest : List (Task N)) → SameBag (all_took (passes_of afters) ++ rest) (all_put (passes_of afters)) → SameBag (group.took ++ paths_of rest) ([] ∷ group.put)
  pool-closed rest bag = record {
    weighs = λ h. (
        let a = (same-map (λ (t : Task N). t.path.numbers) bag).weighs h in
        let b = ap (sum_by h) (map-append (λ (t : Task N). t.path.numbers) (all_took (passes_of afters)) rest) in
        let c = sum_by-append h (paths_of (all_took (passes_of afters))) (paths_of rest) in
        let d = ap (sum_by h) (took-passes afters) in let e = ap (sum_by h) (put-passes afters) in
        let f = work.took_is.weighs h in let g = work.put_is.weighs h in
        let i = ap (λ l. sum_by h (l ++ group.took)) begun.took in let j = ap (λ l. sum_by h (l ++ group.put)) begun.put in
        let k = sum_by-append h group.took (paths_of rest) in omega arith);
  }

  pub mail-closed : (rest : List (Task N)) → SameBag (got_by (seats_of afters) ++ rest) (given_by (seats_of afters)) → SameBag (group.got ++ paths_of rest) group.given
  mail-closed rest bag = record {
    weighs = λ h. (
        let a = (same-map (λ (t : Task N). t.path.numbers) bag).weighs h in
        let b = ap (sum_by h) (map-append (λ (t : Task N). t.path.numbers) (got_by (seats_of afters)) rest) in
        let c = sum_by-append h (paths_of (got_by (seats_of afters))) (paths_of rest) in
        let d = ap (sum_by h) (got-seats afters) in let e = ap (sum_by h) (given-seats afters) in
        let f = work.got_is.weighs h in let g = work.given_is.weighs h in
        let i = ap (λ l. sum_by h (l ++ group.got)) begun.got in let j = ap (λ l. sum_by h (l ++ group.given)) begun.given in
        let k = sum_by-append h group.got (paths_of rest) in omega arith);
  }

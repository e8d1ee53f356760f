-- How the stations of a crew are made, one after another.
use Rattle.std.proofs.Common.{◌≡◌, ℕ, zero, suc, ◌+◌, ◌-◌, ◌<◌, List, [], ◌∷◌, ◌++◌, ◌∙◌, length, map, slice_index_or, refl, sym, ap, subst, arith, length-append}
use Rattle.std.proofs.lemmas.List.{length-map}
use Rattle.yew_best.specs.Seats.{SeatView}
use Rattle.yew_laws.specs.Tasks.{Members}
use Rattle.yew_laws.specs.declared.problem.Task.{Task}
use Rattle.yew_mail.specs.Seats.{new_seat, SeatView as MailSeatView}
use Rattle.yew_mail.specs.Views.{counted_from}
use Rattle.yew_pool.specs.Passes.{PoolId, PassView}
use Rattle.yew_walk.specs.LogViews.{LogView}
use Rattle.yew_crew.specs.OpenSeats.{OpenSeatView}
use Rattle.yew_crew.specs.Starting.{new_best, new_open, new_put, ArePasses, IsBegun, AreBegun, IsBeginning, IsSeating}
use Rattle.yew_crew.specs.declared.starting.Seats.{Seats}
use Rattle.yew_crew.specs.declared.station.Shared.{Shared}
use Rattle.yew_crew.specs.declared.station.Station.{Station}

module _ {N : Type 0} (members : Members N) where
  -- the passes of a pool, place by place
  pub passes-from : (pool : PoolId) (place : ℕ) (passes : List (PassView (Task N) (Members N)))
      → ((i : ℕ) (other : PassView (Task N) (Members N)) → i < length passes → slice_index_or passes i other ≡ new_put members pool (place + i) [])
      → ArePasses members pool place passes
  passes-from pool place [] each = tt
  passes-from pool place (p ∷ ps) each = (
    each 0 p (omega arith) ∙ ap (λ k. new_put members pool k []) (let e : place + 0 ≡ place = omega arith in e),
    passes-from pool (suc place) ps (λ i other h. each (suc i) other (omega arith) ∙ ap (λ k. new_put members pool k []) (let e : place + suc i ≡ suc place + i = omega arith in e)),
  )

module _ {N S R : Type 0} (members : Members N) (none : S) (seen : R → LogView) (shared : Shared N) where
  pub begun-push : (place : ℕ) (stations : List (Station N S R)) (last : Station N S R) → AreBegun members none seen shared place stations
      → IsBegun members none seen shared (place + length stations) 0 [] last → AreBegun members none seen shared place (stations ++ last ∷ [])
  begun-push place [] x a b = (subst (λ k. IsBegun members none seen shared k 0 [] x) (let e : place + 0 ≡ place = omega arith in e) b, tt)
  begun-push place (y ∷ ys) x a b =
      (a.0, begun-push (suc place) ys x a.1 (subst (λ k. IsBegun members none seen shared k 0 [] x) (let e : place + suc (length ys) ≡ suc place + length ys = omega arith in e) b))

  -- the station of one more worker, with the seats that were split off
  pub seating-next : (best best' : SeatView) (tasks tasks' : OpenSeatView) (pass : PassView (Task N) (Members N)) (passes passes' : List (PassView (Task N) (Members N)))
      (seat : MailSeatView (Task N) (Members N)) (seats seats' : List (MailSeatView (Task N) (Members N))) (station : Station N S R) (stations stations' : List (Station N S R)) (place made : ℕ)
      → place ≡ length stations + 1 → made ≡ 0 → passes ≡ pass ∷ passes' → seats ≡ seat ∷ seats'
      → best' ≡ record best { share = best.share - 1 } → tasks' ≡ record tasks { share = tasks.share - 1 }
      → IsBegun members none seen shared place made pass.put station → stations' ≡ stations ++ station ∷ []
      → IsSeating members none seen shared best tasks passes seats stations → IsSeating members none seen shared best' tasks' passes' seats' stations'
  seating-next best best' tasks tasks' pass passes passes' seat seats seats' station stations stations' place made place_is made_none passes_are seats_are best_is tasks_is begun pushed w =
      let w' : IsSeating members none seen shared best tasks (pass ∷ passes') seats stations = subst (λ ps. IsSeating members none seen shared best tasks ps seats stations) passes_are w in
      let fewer : suc (suc (length passes')) - 1 ≡ suc (length passes') = omega arith in
      let len : length stations' ≡ suc (length stations) = ap length pushed ∙ (length-append stations (station ∷ []) ∙ (let e : length stations + 1 ≡ suc (length stations) = omega arith in e)) in
      let few = w'.few in
      let here : IsBegun members none seen shared place 0 [] station =
      subst (λ ts. IsBegun members none seen shared place 0 ts station) (ap (λ (p : PassView (Task N) (Members N)). p.put) w'.passes_are.0) (subst (λ k. IsBegun members none seen shared place k pass.put station) made_none begun) in
      let row : seat ∷ seats' ≡ new_seat shared.mail members (suc (length stations) + 1) ∷ map (new_seat shared.mail members) (counted_from (suc (suc (length stations) + 1)) (length passes')) = sym seats_are ∙ w'.seats_are in
      let later : seats' ≡ map (new_seat shared.mail members) (counted_from (suc (suc (length stations) + 1)) (length passes')) = cc in
      record {
        best_is = best_is ∙ (ap (λ (b : SeatView). record b { share = b.share - 1 }) w'.best_is ∙ ap (new_best shared.best) fewer);
        tasks_is = tasks_is ∙ (ap (λ (t : OpenSeatView). record t { share = t.share - 1 }) w'.tasks_is ∙ ap (λ k. new_open shared.tasks k 1) fewer);
        passes_are = subst (λ k. ArePasses members shared.pool (suc k) passes') (sym len) w'.passes_are.1;
        seats_are = later ∙ ap (λ k. map (new_seat shared.mail members) (counted_from k (length passes'))) (let e : suc (suc (length stations) + 1) ≡ suc (length stations') + 1 = omega arith in e);
        stations_are = subst (AreBegun members none seen shared 1) (sym pushed) (begun-push 1 stations station w'.stations_are
            (subst (λ k. IsBegun members none seen shared k 0 [] station) (let e : place ≡ 1 + length stations = omega arith in e) here));
        few = omega arith;
      }

counted-length : (k n : ℕ) → length (counted_from k n) ≡ n
counted-length k zero = refl
counted-length k (suc n) = ap suc (counted-length (suc k) n)

pub seats-length : {X : Type 0} (f : ℕ → X) (xs : List X) (k n : ℕ) → xs ≡ map f (counted_from k n) → length xs ≡ n
seats-length f xs k n e = ap length e ∙ (length-map (counted_from k n) f ∙ counted-length k n)

module _ {N : Type 0} (members : Members N) where
  -- the seats of a crew, once a pass and a mail seat were taken off for the first worker
  pub record IsOpened (workers : ℕ) (shared : Shared N) (seats : Seats N) (pass : PassView (Task N) (Members N)) (passes : List (PassView (Task N) (Members N))) (seat : MailSeatView (Task N) (Members N)) (mail : List (MailSeatView (Task N) (Members N))) : Type 0 where
    pub pass_is : pass ≡ new_put members shared.pool 0 []
    pub seat_is : seat ≡ new_seat shared.mail members 1
    pub best_is : seats.best ≡ new_best shared.best (length passes + 1)
    pub tasks_is : seats.tasks ≡ new_open shared.tasks (length passes + 1) 1
    pub passes_are : ArePasses members shared.pool 1 passes
    pub seats_are : mail ≡ map (new_seat shared.mail members) (counted_from 2 (length passes))
    pub count : suc (length passes) ≡ workers

  pub opened : (workers : ℕ) (shared : Shared N) (seats : Seats N) (pass : PassView (Task N) (Members N)) (passes : List (PassView (Task N) (Members N))) (seat : MailSeatView (Task N) (Members N)) (mail : List (MailSeatView (Task N) (Members N)))
      → seats.passes.items ≡ pass ∷ passes → seats.mail.items ≡ seat ∷ mail → IsBeginning members workers shared seats → IsOpened workers shared seats pass passes seat mail
  opened workers shared seats pass passes seat mail passes_are mail_are b =
      let count : suc (length passes) ≡ workers = sym (ap length passes_are) ∙ b.count in
      let share : workers ≡ length passes + 1 = omega arith in
      let each : ArePasses members shared.pool 0 (pass ∷ passes) = subst (ArePasses members shared.pool 0) passes_are b.passes_are in
      let row : seat ∷ mail ≡ new_seat shared.mail members 1 ∷ map (new_seat shared.mail members) (counted_from 2 (length passes)) =
      sym mail_are ∙ (b.seats_are ∙ ap (λ n. map (new_seat shared.mail members) (counted_from 1 n)) (sym count)) in
      record {
        pass_is = each.0;
        seat_is = cc;
        best_is = b.best_is ∙ ap (new_best shared.best) share;
        tasks_is = b.tasks_is ∙ ap (λ n. new_open shared.tasks n 1) share;
        passes_are = each.1;
        seats_are = cc;
        count = count;
      }

module _ {N S R : Type 0} (members : Members N) (none : S) (seen : R → LogView) (shared : Shared N) where
  pub seating-begins : (best : SeatView) (tasks : OpenSeatView) (passes : List (PassView (Task N) (Members N))) (seats : List (MailSeatView (Task N) (Members N))) (stations : List (Station N S R))
      → stations ≡ [] → best ≡ new_best shared.best (length passes + 1) → tasks ≡ new_open shared.tasks (length passes + 1) 1 → ArePasses members shared.pool 1 passes
      → seats ≡ map (new_seat shared.mail members) (counted_from 2 (length passes)) → length passes < 64 → IsSeating members none seen shared best tasks passes seats stations
  seating-begins best tasks passes seats stations none_yet best_is tasks_is passes_are seats_are few =
      let share : length passes + 1 ≡ suc (length passes) = omega arith in
      subst (λ (ss : List (Station N S R)). IsSeating members none seen shared best tasks passes seats ss) (sym none_yet) record {
        best_is = best_is ∙ ap (new_best shared.best) share;
        tasks_is = tasks_is ∙ ap (λ n. new_open shared.tasks n 1) share;
        passes_are = passes_are;
        seats_are = seats_are;
        stations_are = tt;
        few = omega arith;
      }

  -- the first worker is left with a share of 1
  pub seating-ends : (best : SeatView) (tasks : OpenSeatView) (passes : List (PassView (Task N) (Members N))) (seats : List (MailSeatView (Task N) (Members N))) (stations : List (Station N S R))
      → length passes ≡ 0 → IsSeating members none seen shared best tasks passes seats stations → (best ≡ new_best shared.best 1) × (tasks ≡ new_open shared.tasks 1 1)
  seating-ends best tasks passes seats stations none_left w =
      let share : suc (length passes) ≡ 1 = omega arith in
      (w.best_is ∙ ap (new_best shared.best) share, w.tasks_is ∙ ap (λ n. new_open shared.tasks n 1) share)

  -- the station of the first worker, whose pass has put the root's task
  pub first-begun : (made : ℕ) (put : List (Task N)) (root : Task N) (station : Station N S R) → IsBegun members none seen shared 0 made put station
      → made ≡ 1 → put ≡ root ∷ [] → IsBegun members none seen shared 0 1 (root ∷ []) station
  first-begun made put root station begun made_is put_is =
      subst (λ ts. IsBegun members none seen shared 0 1 ts station) put_is (subst (λ k. IsBegun members none seen shared 0 k put station) made_is begun)

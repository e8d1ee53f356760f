-- All workers have handed in their reports: where none has a fault, each came to its end, and what they did together is what the joined seats and the passes tell.
use Rattle.std.proofs.Common.{◌≡◌, ℕ, suc, ◌+◌, ◌<◌, true, false, List, [], ◌∷◌, ◌++◌, ◌∙◌, Some, None, refl, sym, ap, ap₂, subst, arith}
use Rattle.std.specs.List.{AllByRecursion, sum_by}
use Rattle.std.proofs.lemmas.List.{map-append}
use Rattle.std.proofs.lemmas.List.Sums.{sum_by-cons}
use Rattle.std.proofs.lemmas.Option.{none-some}
use Rattle.yew_best.specs.Seats.{SeatView}
use Rattle.yew_laws.specs.Fold.{IsTally}
use Rattle.yew_laws.specs.SearchTree.{SearchTree}
use Rattle.yew_laws.specs.Tasks.{Members}
use Rattle.yew_laws.specs.declared.problem.Task.{Task}
use Rattle.yew_mail.specs.Closing.{got_by, given_by}
use Rattle.yew_mail.specs.Seats.{SeatView as MailSeatView}
use Rattle.yew_mail.specs.Views.{first_of}
use Rattle.yew_pool.specs.Passes.{PassView, all_put, all_took}
use Rattle.yew_stack.specs.Splits.{paths_of}
use Rattle.yew_walk.specs.LogViews.{LogView}
use Rattle.yew_walk.specs.declared.fault.SearchFault.{SearchFault}
use Rattle.yew_crew.specs.Crews.{IsFresh, AreReports, stations_of, tasks_with, took_of, put_of, got_of, given_of}
use Rattle.yew_crew.specs.Joining.{first_fault, fault_in, passes_of, seats_of}
use Rattle.yew_crew.specs.OpenSeats.{OpenSeatView, IsExact}
use Rattle.yew_crew.specs.Reports.{IsEnd, IsDone, IsAlone, HasNoFault, IsEndDone}
use Rattle.yew_crew.specs.Starting.{IsBegun, AreBegun, IsCrew}
use Rattle.yew_crew.specs.Stations.{searched, IsReady}
use Rattle.yew_crew.specs.declared.coord.Coord.{Coord}
use Rattle.yew_crew.specs.declared.station.End.{End}
use Rattle.yew_crew.specs.declared.station.End.TheVariants.{Done, Stopped, Fault}
use Rattle.yew_crew.specs.declared.station.Report.{Report}
use Rattle.yew_crew.specs.declared.station.Shared.{Shared}
use Rattle.yew_crew.specs.declared.station.Station.{Station}
use Rattle.yew_crew.proofs.CrewEnds.{all-done}
use Rattle.yew_crew.proofs.RestEnds.{IsNew, AreDone}

-- the seat of the first worker is joined to one that has done nothing
abbrev pub before-first : OpenSeatView → OpenSeatView
before-first t = record t { share = 0; made = 0; ended = 0; knows = false; stops = 0; saw = false }

from-zero : (t : OpenSeatView) → record t { share = 0 + t.share; made = 0 + t.made; ended = 0 + t.ended; stops = 0 + t.stops } ≡ t
from-zero t =
    let z : (n : ℕ) → 0 + n ≡ n = λ n. omega arith in
    ap (λ n. record t { share = n; made = 0 + t.made; ended = 0 + t.ended; stops = 0 + t.stops }) (z t.share)
    ∙ (ap (λ n. record t { made = n; ended = 0 + t.ended; stops = 0 + t.stops }) (z t.made)
    ∙ (ap (λ n. record t { ended = n; stops = 0 + t.stops }) (z t.ended) ∙ ap (λ n. record t { stops = n }) (z t.stops)))

module _ {N S R : Type 0} where
  pub fault-stays : (reports : List (Report N S R)) (fault : SearchFault) → fault_in (Some fault) reports ≡ Some fault
  fault-stays [] fault = refl
  fault-stays (r ∷ rs) fault = fault-stays rs fault

  -- where there is no first fault there is none
  pub no-faults : (reports : List (Report N S R)) → fault_in None reports ≡ None → AllByRecursion (λ (r : Report N S R). HasNoFault r.end) reports
  no-faults [] e = tt
  no-faults (r ∷ rs) e = by r.end refl (λ h. no-faults rs h)
    where
      by : (end : End) → r.end ≡ end → (fault_in None rs ≡ None → AllByRecursion (λ (q : Report N S R). HasNoFault q.end) rs) → HasNoFault r.end × AllByRecursion (λ (q : Report N S R). HasNoFault q.end) rs
      by Done is others = (subst HasNoFault (sym is) tt, others (sym (ap (λ x. fault_in (first_fault None x) rs) is) ∙ e))
      by Stopped is others = (subst HasNoFault (sym is) tt, others (sym (ap (λ x. fault_in (first_fault None x) rs) is) ∙ e))
      by (Fault f) is others = absurd (none-some f (sym e ∙ (ap (λ x. fault_in (first_fault None x) rs) is ∙ fault-stays rs f)))

  pub joined-first : (first : Station N S R) (rest : List (Station N S R)) → tasks_with (before-first first.tasks) (first ∷ rest) ≡ tasks_with first.tasks rest
  joined-first first rest = ap (λ (t : OpenSeatView). tasks_with t rest) (from-zero first.tasks)

  -- what the passes and the mail seats of stations tell
  pub took-passes : (stations : List (Station N S R)) → paths_of (all_took (passes_of stations)) ≡ took_of stations
  took-passes [] = refl
  took-passes (s ∷ ss) = map-append (λ (t : Task N). t.path.numbers) s.pool.took (all_took (passes_of ss)) ∙ ap (λ l. paths_of s.pool.took ++ l) (took-passes ss)

  pub put-passes : (stations : List (Station N S R)) → paths_of (all_put (passes_of stations)) ≡ put_of stations
  put-passes [] = refl
  put-passes (s ∷ ss) = map-append (λ (t : Task N). t.path.numbers) s.pool.put (all_put (passes_of ss)) ∙ ap (λ l. paths_of s.pool.put ++ l) (put-passes ss)

  pub got-seats : (stations : List (Station N S R)) → paths_of (got_by (seats_of stations)) ≡ got_of stations
  got-seats [] = refl
  got-seats (s ∷ ss) = map-append (λ (t : Task N). t.path.numbers) s.mail.got (got_by (seats_of ss)) ∙ ap (λ l. paths_of s.mail.got ++ l) (got-seats ss)

  pub given-seats : (stations : List (Station N S R)) → paths_of (given_by (seats_of stations)) ≡ given_of stations
  given-seats [] = refl
  given-seats (s ∷ ss) = map-append (λ (t : Task N). t.path.numbers) s.mail.given (given_by (seats_of ss)) ∙ ap (λ l. paths_of s.mail.given ++ l) (given-seats ss)

module _ {N S R : Type 0} (members : Members N) (none : S) (seen : R → LogView) (shared : Shared N) where
  module _ (place made : ℕ) (put : List (Task N)) (x : Station N S R) (is : IsBegun members none seen shared place made put x) where
    pub begun-stops : x.tasks.stops ≡ 0
    begun-stops = ap (λ (t : OpenSeatView). t.stops) is.tasks_is

    pub begun-fresh : {fits : S → Type 0} → fits none → IsFresh fits x
    begun-fresh {fits} f = record { fits_sum = subst fits (sym is.sum_none) f; read_none = ap (λ (b : SeatView). b.read) is.best_is; offered_none = ap (λ (b : SeatView). b.offered) is.best_is }

    pub begun-took : paths_of x.pool.took ≡ []
    begun-took = ap (λ (p : PassView (Task N) (Members N)). paths_of p.took) is.pool_is

    pub begun-put : paths_of x.pool.put ≡ paths_of put
    begun-put = ap (λ (p : PassView (Task N) (Members N)). paths_of p.put) is.pool_is

    pub begun-got : paths_of x.mail.got ≡ []
    begun-got = ap (λ (p : MailSeatView (Task N) (Members N)). paths_of p.got) is.mail_is

    pub begun-given : paths_of x.mail.given ≡ []
    begun-given = ap (λ (p : MailSeatView (Task N) (Members N)). paths_of p.given) is.mail_is

    -- where the word was made for this worker alone, it is alone
    pub begun-alone : shared.best.seats ≡ 1 → IsAlone x
    begun-alone one = record {
      whole = ap (λ (b : SeatView). b.share) is.best_is ∙ (sym one ∙ sym (ap (λ (b : SeatView). b.best.seats) is.best_is));
      none_read = ap (λ (b : SeatView). b.read) is.best_is;
      none_offered = ap (λ (b : SeatView). b.offered) is.best_is;
    }

    -- it is ready for its worker
    pub begun-ready : (fits : S → Type 0) → fits none → IsReady fits members shared x
    begun-ready fits f = record {
      of_best = ap (λ (b : SeatView). b.best) is.best_is;
      of_pool = ap (λ (p : PassView (Task N) (Members N)). p.pool) is.pool_is;
      of_mail = ap (λ (m : MailSeatView (Task N) (Members N)). m.mail) is.mail_is;
      of_tasks = ap (λ (t : OpenSeatView). t.tasks) is.tasks_is;
      pass_members = ap (λ (p : PassView (Task N) (Members N)). p.members) is.pool_is;
      mail_members = ap (λ (m : MailSeatView (Task N) (Members N)). m.members) is.mail_is;
      mail_number = ap (λ (m : MailSeatView (Task N) (Members N)). first_of m.numbers) is.mail_is ∙ sym is.number_is;
      no_ask = ap (λ (m : MailSeatView (Task N) (Members N)). m.ask) is.mail_is;
      space = is.space;
      fits_sum = subst fits (sym is.sum_none) f;
    }

  -- what holds of each station that begins with nothing
  pub each-begun : (Q : Station N S R → Type 0) → ((place : ℕ) (x : Station N S R) → IsBegun members none seen shared place 0 [] x → Q x)
      → (place : ℕ) (xs : List (Station N S R)) → AreBegun members none seen shared place xs → AllByRecursion Q xs
  each-begun Q f place [] b = tt
  each-begun Q f place (x ∷ xs) b = (f place x b.0, each-begun Q f (suc place) xs b.1)

  none-took : (place : ℕ) (xs : List (Station N S R)) → AreBegun members none seen shared place xs → took_of xs ≡ []
  none-took place [] b = refl
  none-took place (x ∷ xs) b = ap₂ ◌++◌ (begun-took place 0 [] x b.0) (none-took (suc place) xs b.1)

  none-put : (place : ℕ) (xs : List (Station N S R)) → AreBegun members none seen shared place xs → put_of xs ≡ []
  none-put place [] b = refl
  none-put place (x ∷ xs) b = ap₂ ◌++◌ (begun-put place 0 [] x b.0) (none-put (suc place) xs b.1)

  none-got : (place : ℕ) (xs : List (Station N S R)) → AreBegun members none seen shared place xs → got_of xs ≡ []
  none-got place [] b = refl
  none-got place (x ∷ xs) b = ap₂ ◌++◌ (begun-got place 0 [] x b.0) (none-got (suc place) xs b.1)

  none-given : (place : ℕ) (xs : List (Station N S R)) → AreBegun members none seen shared place xs → given_of xs ≡ []
  none-given place [] b = refl
  none-given place (x ∷ xs) b = ap₂ ◌++◌ (begun-given place 0 [] x b.0) (none-given (suc place) xs b.1)

  none-counted : (f : Station N S R → ℕ) → ((place : ℕ) (x : Station N S R) → IsBegun members none seen shared place 0 [] x → f x ≡ 0)
      → (place : ℕ) (xs : List (Station N S R)) → AreBegun members none seen shared place xs → sum_by f xs ≡ 0
  none-counted f each place [] b = refl
  none-counted f each place (x ∷ xs) b = let a = each place x b.0 in let r = none-counted f each (suc place) xs b.1 in let c = sum_by-cons f x xs in omega arith

  -- Of the stations of a crew before it began: the root's task was put and made, and nothing else was done
  pub record HasBegun (stations : List (Station N S R)) : Type 0 where
    pub took : took_of stations ≡ []
    pub put : put_of stations ≡ [] ∷ []
    pub got : got_of stations ≡ []
    pub given : given_of stations ≡ []
    pub made : sum_by (λ (x : Station N S R). x.tasks.made) stations ≡ 1
    pub finished : sum_by (λ (x : Station N S R). x.tasks.ended) stations ≡ 0
    pub stops : AllByRecursion (λ (x : Station N S R). x.tasks.stops ≡ 0) stations

  pub crew-begun : (workers : ℕ) (stations : List (Station N S R)) → IsCrew members none seen shared workers stations → HasBegun stations
  crew-begun workers stations crew =
      let first = crew.first in let others = crew.others in
      let is = crew.first_is in
      subst HasBegun (sym crew.stands) record {
        took = ap₂ ◌++◌ (begun-took 0 1 (crew.root ∷ []) first is) (none-took 1 others crew.others_are);
        put = ap₂ ◌++◌ (begun-put 0 1 (crew.root ∷ []) first is ∙ ap (λ p. p ∷ []) crew.of_root) (none-put 1 others crew.others_are);
        got = ap₂ ◌++◌ (begun-got 0 1 (crew.root ∷ []) first is) (none-got 1 others crew.others_are);
        given = ap₂ ◌++◌ (begun-given 0 1 (crew.root ∷ []) first is) (none-given 1 others crew.others_are);
        made = (
            let a = ap (λ (t : OpenSeatView). t.made) is.tasks_is in
            let b = none-counted (λ (x : Station N S R). x.tasks.made) (λ place x i. ap (λ (t : OpenSeatView). t.made) i.tasks_is) 1 others crew.others_are in
            let c = sum_by-cons (λ (x : Station N S R). x.tasks.made) first others in omega arith);
        finished = (
            let a = ap (λ (t : OpenSeatView). t.ended) is.tasks_is in
            let b = none-counted (λ (x : Station N S R). x.tasks.ended) (λ place x i. ap (λ (t : OpenSeatView). t.ended) i.tasks_is) 1 others crew.others_are in
            let c = sum_by-cons (λ (x : Station N S R). x.tasks.ended) first others in omega arith);
        stops = (begun-stops 0 1 (crew.root ∷ []) first is, each-begun (λ (x : Station N S R). x.tasks.stops ≡ 0) (λ place x i. begun-stops place 0 [] x i) 1 others crew.others_are);
      }

  pub crew-ready : (fits : S → Type 0) → fits none → (workers : ℕ) (stations : List (Station N S R)) → IsCrew members none seen shared workers stations → AllByRecursion (IsReady fits members shared) stations
  crew-ready fits f workers stations crew = subst (AllByRecursion (IsReady fits members shared)) (sym crew.stands)
      (begun-ready 0 1 (crew.root ∷ []) crew.first crew.first_is fits f, each-begun (IsReady fits members shared) (λ place x i. begun-ready place 0 [] x i fits f) 1 crew.others crew.others_are)

module _ {N S R : Type 0} (t : SearchTree N) (join : S → S → S) (none : S) (of : N → ℕ → S) (seen : R → LogView) (coord : Coord) (gap : ℕ) (members : Members N) (shared : Shared N) (workers : ℕ)
    {fits : S → Type 0} (tally : IsTally fits join none) (of_fits : (n : N) (depth : ℕ) → fits (of n depth)) where
  abbrev pub done-of : (before after : Station N S R) (end : End) → IsEnd (searched t join none of seen coord gap) before after end → IsEndDone end → IsDone (searched t join none of seen coord gap) before after
  done-of before after Done is done = is
  done-of before after Stopped is done = absurd done
  done-of before after (Fault fault) is done = absurd done

  pub new-station : (place made : ℕ) (put : List (Task N)) (x : Station N S R) → IsBegun members none seen shared place made put x → IsNew (searched t join none of seen coord gap) workers tally of_fits (place + 1) x
  new-station place made put x is = record { sum_none = is.sum_none; holds_none = is.holds_none; told = is.told; totals = is.totals; number_is = is.log_number }

  -- workers that came to their ends, from this place on
  pub done-all : (place : ℕ) (befores : List (Station N S R)) (reports : List (Report N S R)) → AreBegun members none seen shared place befores
      → AreReports (searched t join none of seen coord gap) befores reports → AllByRecursion (λ (r : Report N S R). IsEndDone r.end) reports
      → AreDone (searched t join none of seen coord gap) workers tally of_fits (place + 1) befores (stations_of reports)
  done-all place [] [] b a d = tt
  done-all place [] (r ∷ rs) b a d = absurd a
  done-all place (x ∷ xs) [] b a d = absurd a
  done-all place (x ∷ xs) (r ∷ rs) b a d = (
    (new-station place 0 [] x b.0, done-of x r.station r.end a.0.ends d.0),
    subst (λ n. AreDone (searched t join none of seen coord gap) workers tally of_fits n xs (stations_of rs)) (let e : suc place + 1 ≡ suc (place + 1) = omega arith in e) (done-all (suc place) xs rs b.1 a.1 d.1),
  )

  -- no report has a fault, so all came to their ends
  pub all-ended : (befores : List (Station N S R)) (first : Report N S R) (rest : List (Report N S R)) (word : ℕ) → IsCrew members none seen shared workers befores
      → AreReports (searched t join none of seen coord gap) befores (first ∷ rest) → fault_in None (first ∷ rest) ≡ None → IsExact (tasks_with first.station.tasks (stations_of rest)) word
      → AllByRecursion (λ (r : Report N S R). IsEndDone r.end) (first ∷ rest)
  all-ended befores first rest word crew are none_faulty exact =
      all-done (searched t join none of seen coord gap) befores (first ∷ rest) (before-first first.station.tasks) are (crew-begun members none seen shared workers befores crew).stops (no-faults (first ∷ rest) none_faulty) refl
      (subst (λ (v : OpenSeatView). v.saw ≡ true → 0 < v.stops) (sym (joined-first first.station (stations_of rest))) exact.saw)

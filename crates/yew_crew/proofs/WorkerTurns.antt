-- The turns of a worker that spawns: what each of them leaves.
use Rattle.std.proofs.Common.{◌≡◌, ℕ, ◌+◌, ◌∙◌, List, [], ◌∷◌, refl, sym, ap, subst, arith, Bool, Some, Ok, Err, Result}
use Rattle.std.specs.Prelude.{IfErr, OnOk, ◌%◌, ◌^◌, ◌||◌, true, false}
use Rattle.yew_laws.specs.SearchTree.{SearchTree}
use Rattle.yew_laws.specs.declared.problem.Task.{Task}
use Rattle.yew_pool.specs.Passes.{HasTaken}
use Rattle.yew_walk.specs.LogViews.{LogView}
use Rattle.yew_walk.specs.declared.fault.SearchFault.{SearchFault}
use Rattle.yew_crew.specs.OpenSeats.{OpenId, IsExact}
use Rattle.yew_crew.specs.Outlets.{SpawningView}
use Rattle.yew_crew.specs.Reports.{IsReport}
use Rattle.yew_crew.specs.Stations.{Searched, searched, IsSameStation}
use Rattle.yew_crew.specs.Turns.{station_of, IsTurned}
use Rattle.yew_crew.specs.Working.{IsWorking, IsStep, IsBrokenStep}
use Rattle.yew_crew.specs.declared.coord.Coord.{Coord}
use Rattle.yew_crew.specs.declared.spawn_worker.Spawner.{Spawner}
use Rattle.yew_crew.specs.declared.spawn_worker.Turn.TheVariants.{Ended}
use Rattle.yew_crew.specs.declared.station.End.{End}
use Rattle.yew_crew.specs.declared.station.End.TheVariants.{Done, Stopped, Fault}
use Rattle.yew_crew.specs.declared.station.Report.{Report}
use Rattle.yew_crew.specs.declared.station.Station.{Station}
use Rattle.yew_crew.proofs.BrokenSteps.{work-broken}
use Rattle.yew_crew.proofs.WorkDone.{work-done}
use Rattle.yew_crew.proofs.WorkSteps.{same-twice}
use Rattle.yew_crew.proofs.WorkStopped.{work-stopped}
use Rattle.yew_crew.proofs.WorkTurns.{work-took, work-quiet}

-- a fact of the error that a call answers gives another one
pub IfErr-map : {X E : Type 0} {P Q : E → Type 0} (result : Result X E) → ((e : E) → P e → Q e) → IfErr result P → IfErr result Q
IfErr-map (Ok x) f p = tt
IfErr-map (Err e) f p = f e p

-- a count of 0 says that as many tasks have ended as were made, modulo 2^64
is-exact : (made ended : ℕ) → (0 + ended) % 2 ^ 64 ≡ made % 2 ^ 64 → made % 2 ^ 64 ≡ ended % 2 ^ 64
is-exact made ended counts = let none : 0 + ended ≡ ended = omega arith in sym counts ∙ ap (λ n. n % 2 ^ 64) none

pub or_true : (b c : Bool) → c ≡ true → (b || c) ≡ true
or_true true c is = refl
or_true false c is = is

-- a stop leaves the station the same
pub same-stopped : {N S R : Type 0} (first after : Station N S R) → IsSameStation first after
    → IsSameStation first (record after { tasks = record after.tasks { stops = after.tasks.stops + 1 } })
same-stopped first after is = record {
  number = is.number;
  best = is.best;
  best_share = is.best_share;
  pool = is.pool;
  pass_number = is.pass_number;
  pass_share = is.pass_share;
  pass_members = is.pass_members;
  mail = is.mail;
  mail_share = is.mail_share;
  mail_numbers = is.mail_numbers;
  mail_members = is.mail_members;
  tasks = is.tasks;
  tasks_share = is.tasks_share;
}

-- what a walk did by a coordination, which is another one by name
module _ {N S R : Type 0} (t : SearchTree N) (join : S → S → S) (none : S) (of : N → ℕ → S) (seen : R → LogView) (coord other : Coord) (gap : ℕ) (path : List ℕ)
    (before after : Station N S R) where
  pub step-by : (result : Result (Unit {0}) SearchFault) → coord ≡ other → OnOk result (IsStep (searched t join none of seen other gap) path before after)
      → OnOk result (IsStep (searched t join none of seen coord gap) path before after)
  step-by result is step = subst (λ (by : Coord). OnOk result (IsStep (searched t join none of seen by gap) path before after)) (sym is) step

  pub broken-by : (result : Result (Unit {0}) SearchFault) → coord ≡ other
      → IfErr result (λ fault. IsBrokenStep (searched t join none of seen other gap) path fault before after)
      → IfErr result (λ fault. IsBrokenStep (searched t join none of seen coord gap) path fault before after)
  broken-by result is broken = subst (λ (by : Coord). IfErr result (λ fault. IsBrokenStep (searched t join none of seen by gap) path fault before after))
      (sym is) broken

module _ {P N S R : Type 0} (s : Searched S R N) where
  -- it looked whether all are told to stop
  pub turn-looked : (first : Station N S R) (spawner : Spawner (SpawningView P N) N S R) (outlet : SpawningView P N) (saw : Bool)
      → outlet ≡ record spawner.outlet { tasks = record spawner.outlet.tasks { saw = saw } }
      → IsWorking s [] first (station_of spawner) → IsWorking s [] first (station_of (record spawner { outlet = outlet }))
  turn-looked first spawner outlet saw is w =
      subst (λ (o : SpawningView P N). IsWorking s [] first (station_of (record spawner { outlet = o }))) (sym is)
      (work-quiet s [] first (station_of spawner) (record spawner.outlet.tasks { saw = saw }) spawner.outlet.pass.found_empty w refl)

  -- it took a task
  pub turn-took : (first : Station N S R) (spawner : Spawner (SpawningView P N) N S R) (outlet : SpawningView P N) (task : Task N)
      → outlet ≡ record spawner.outlet { pass = outlet.pass } → HasTaken spawner.outlet.pass task outlet.pass
      → IsWorking s [] first (station_of spawner) → IsWorking s (task.path.numbers ∷ []) first (station_of (record spawner { outlet = outlet }))
  turn-took first spawner outlet task is has w =
      subst (λ (o : SpawningView P N). IsWorking s (task.path.numbers ∷ []) first (station_of (record spawner { outlet = o }))) (sym is)
      (work-took s [] first (station_of spawner) outlet.pass task w has)

  -- it found the pool empty
  pub turn-empty : (first : Station N S R) (spawner : Spawner (SpawningView P N) N S R) (outlet : SpawningView P N)
      → outlet ≡ record spawner.outlet { pass = record spawner.outlet.pass { found_empty = outlet.pass.found_empty } }
      → IsWorking s [] first (station_of spawner) → IsWorking s [] first (station_of (record spawner { outlet = outlet }))
  turn-empty first spawner outlet is w =
      subst (λ (o : SpawningView P N). IsWorking s [] first (station_of (record spawner { outlet = o }))) (sym is)
      (work-quiet s [] first (station_of spawner) spawner.outlet.tasks outlet.pass.found_empty w refl)

  -- it loaded the count
  pub turn-loaded : (first : Station N S R) (spawner : Spawner (SpawningView P N) N S R) (outlet : SpawningView P N) (word : ℕ)
      → outlet ≡ record spawner.outlet { tasks = record spawner.outlet.tasks { last = Some word; knew = spawner.outlet.tasks.knows } }
      → IsWorking s [] first (station_of spawner) → IsWorking s [] first (station_of (record spawner { outlet = outlet }))
  turn-loaded first spawner outlet word is w =
      subst (λ (o : SpawningView P N). IsWorking s [] first (station_of (record spawner { outlet = o }))) (sym is)
      (work-quiet s [] first (station_of spawner) (record spawner.outlet.tasks { last = Some word; knew = spawner.outlet.tasks.knows }) spawner.outlet.pass.found_empty w refl)

module _ {P N S R : Type 0} (t : SearchTree N) (join : S → S → S) (none : S) (of : N → ℕ → S) (seen : R → LogView) (coord : Coord) (gap : ℕ) where
  -- it saw that all are told to stop
  pub turn-stopped : (first : Station N S R) (spawner : Spawner (SpawningView P N) N S R) (outlet : SpawningView P N) (saw : Bool) → saw ≡ true
      → outlet ≡ record spawner.outlet { tasks = record spawner.outlet.tasks { saw = spawner.outlet.tasks.saw || saw } }
      → IsWorking (searched t join none of seen coord gap) [] first (station_of spawner)
      → IsTurned (searched t join none of seen coord gap) first (station_of (record spawner { outlet = outlet })) (Ended Stopped)
  turn-stopped first spawner outlet saw shown is w =
      let s : Searched S R N = searched t join none of seen coord gap in
      let now = turn-looked s first spawner outlet (spawner.outlet.tasks.saw || saw) is w in (
        now.same,
        work-stopped t join none of seen coord gap [] first (station_of (record spawner { outlet = outlet })) now
            (ap (λ (o : SpawningView P N). o.tasks.saw) is ∙ or_true spawner.outlet.tasks.saw saw shown),
      )

  -- it loaded a count of 0
  pub turn-done : (first : Station N S R) (spawner : Spawner (SpawningView P N) N S R) (outlet : SpawningView P N) (word : ℕ) → word ≡ 0
      → outlet ≡ record spawner.outlet { tasks = record spawner.outlet.tasks { last = Some word; knew = spawner.outlet.tasks.knows } }
      → (spawner.outlet.tasks.share ≡ spawner.outlet.tasks.tasks.seats → IsExact spawner.outlet.tasks word)
      → IsWorking (searched t join none of seen coord gap) [] first (station_of spawner)
      → IsTurned (searched t join none of seen coord gap) first (station_of (record spawner { outlet = outlet })) (Ended Done)
  turn-done first spawner outlet word zero is exact w =
      let s : Searched S R N = searched t join none of seen coord gap in
      let now = turn-loaded s first spawner outlet word is w in (
        now.same,
        work-done t join none of seen coord gap first (station_of (record spawner { outlet = outlet })) now
            (ap (λ (o : SpawningView P N). o.tasks.last) is ∙ ap Some zero)
            (λ knows. ap (λ (o : SpawningView P N). o.tasks.knew) is ∙ w.knows knows)
            (λ whole. ap (λ (o : SpawningView P N). o.tasks.made % 2 ^ 64) is
            ∙ (is-exact _ _ (subst (IsExact spawner.outlet.tasks) zero
            (exact (w.same.tasks_share ∙ (whole ∙ sym (ap (λ (x : OpenId). x.seats) w.same.tasks))))).counts
            ∙ sym (ap (λ (o : SpawningView P N). o.tasks.ended % 2 ^ 64) is))),
      )

  -- its walk was refused, and it told all to stop
  pub turn-broken : (path : List ℕ) (fault : SearchFault) (first : Station N S R) (before after : Spawner (SpawningView P N) N S R)
      (outlet : SpawningView P N)
      → outlet ≡ record after.outlet { tasks = record after.outlet.tasks { stops = after.outlet.tasks.stops + 1 } }
      → IsWorking (searched t join none of seen coord gap) (path ∷ []) first (station_of before)
      → IsBrokenStep (searched t join none of seen coord gap) path fault (station_of before) (station_of after)
      → IsTurned (searched t join none of seen coord gap) first (station_of (record after { outlet = outlet })) (Ended (Fault fault))
  turn-broken path fault first before after outlet is w b =
      let s : Searched S R N = searched t join none of seen coord gap in
      subst (λ (o : SpawningView P N). IsTurned s first (station_of (record after { outlet = o })) (Ended (Fault fault))) (sym is) (
        same-stopped first (station_of after) (same-twice first (station_of before) (station_of after) w.same b.same),
        work-broken t join none of seen coord gap path fault first (station_of before) (station_of after)
            (record after.outlet.tasks { stops = after.outlet.tasks.stops + 1 }) w b refl,
      )

module _ {N S R : Type 0} (t : SearchTree N) (join : S → S → S) (none : S) (of : N → ℕ → S) (seen : R → LogView) (coord : Coord) (gap : ℕ) where
  -- the report of a worker that has come to its end
  pub reported : (first now : Station N S R) (end : End) (report : Report N S R) → report ≡ record { station = now; end = end }
      → IsTurned (searched t join none of seen coord gap) first now (Ended end) → IsReport (searched t join none of seen coord gap) first report
  reported first now end report is turned = subst (IsReport (searched t join none of seen coord gap) first) (sym is) (record { same = turned.0; ends = turned.1 })

use Rattle.std.proofs.Common.{◌∙◌, [], refl, ap, subst, arith}
use Rattle.std.specs.Prelude.{◌||◌}
use Rattle.std.specs.List.{AllByRecursion}
use Rattle.yew_laws.specs.SearchTree.{search_tree, IsTask}
use Rattle.yew_laws.specs.declared.problem.Task.{Task}
use Rattle.yew_stack.specs.Splits.{paths_of}
use Rattle.yew_walk.specs.LogViews.{log_view}
use Rattle.yew_crew.specs.Outlets.{HandingView}
use Rattle.yew_crew.specs.Rounds.{thief_station}
use Rattle.yew_crew.specs.Stations.{searched}
use Rattle.yew_crew.specs.declared.coord.Coord.TheVariants.{Steal}
use Rattle.yew_crew.specs.Working.{IsWorking}
use Rattle.yew_crew.proofs.Putting.{no_items}
use Rattle.yew_crew.proofs.IdleSteps.{idle-loads}
use Rattle.yew_crew.proofs.StealRounds.{work-idle, work-told, work-order, last-bag, front-all, or_true}
use Rattle.yew_crew.proofs.steal_worker.next_round.Goals as goal

pub returns-then-stopped-clause-round : goal.returns-then-stopped-clause-round
returns-then-stopped-clause-round g c = λ first fits w.
    let thief = c.args.thief.now in
    work-told (search_tree g.P.Problem c.args.problem.now) (g.T.Tally.join c.args.tally.now) (g.T.Tally.none c.args.tally.now) (g.T.Tally.of c.args.tally.now)
    (λ l. log_view (g.R.Recorder.told l) (g.R.Recorder.totals l) (g.R.Recorder.number l)) (Steal c.args.chunk) c.args.gap (paths_of c.args.gift.now.items) first thief c.stopped.new.self
    (idle-loads thief.outlet c.stopped.new.self (record thief.outlet.tasks { saw = thief.outlet.tasks.saw || c.stopped.result }) c.stopped.ensures refl)
    (ap (λ (o : HandingView _ _). o.tasks.saw) c.stopped.ensures ∙ or_true thief.outlet.tasks.saw c.stopped.result c.if-stopped.true) w

pub task_round-requires-clause-task : goal.task_round-requires-clause-task
task_round-requires-clause-task g c κs within =
    (front-all (λ (task : Task _). IsTask g.P.Problem c.args.problem.now task.path.numbers task.node) c.pop.new.self.items c.in-Some.task
    (subst (AllByRecursion (λ (task : Task _). IsTask g.P.Problem c.args.problem.now task.path.numbers task.node)) c.in-Some.ensures.items c.requires.gift)).1

pub returns-in-Some-clause-round : goal.returns-in-Some-clause-round
returns-in-Some-clause-round g c = λ first fits w.
    let s = searched (search_tree g.P.Problem c.args.problem.now) (g.T.Tally.join c.args.tally.now) (g.T.Tally.none c.args.tally.now) (g.T.Tally.of c.args.tally.now)
    (λ l. log_view (g.R.Recorder.told l) (g.R.Recorder.totals l) (g.R.Recorder.number l)) (Steal c.args.chunk) c.args.gap in
    let thief = c.args.thief.now in
    c.task_round.ensures.round (paths_of c.pop.new.self.items) first fits
    (work-order s _ _ first (thief_station (record thief { outlet = c.stopped.new.self })) (last-bag c.args.gift.now.items c.pop.new.self.items c.in-Some.task c.in-Some.ensures.items)
    (work-idle s [] (paths_of c.args.gift.now.items) first thief c.stopped.new.self (idle-loads thief.outlet c.stopped.new.self (record thief.outlet.tasks { saw = thief.outlet.tasks.saw || c.stopped.result }) c.stopped.ensures refl) w))

pub returns-in-None-clause-round : goal.returns-in-None-clause-round
returns-in-None-clause-round g c = λ first fits w.
    let s = searched (search_tree g.P.Problem c.args.problem.now) (g.T.Tally.join c.args.tally.now) (g.T.Tally.none c.args.tally.now) (g.T.Tally.of c.args.tally.now)
    (λ l. log_view (g.R.Recorder.told l) (g.R.Recorder.totals l) (g.R.Recorder.number l)) (Steal c.args.chunk) c.args.gap in
    let thief = c.args.thief.now in
    let none = no_items c.args.gift.now.items (omega (arith, c.args.gift.now.ok.0, c.in-None.ensures.cases.0)) in
    c.idle_round.ensures.round first
    (subst (λ items. IsWorking s (paths_of items) first (thief_station (record thief { outlet = c.stopped.new.self }))) none
    (work-idle s [] (paths_of c.args.gift.now.items) first thief c.stopped.new.self (idle-loads thief.outlet c.stopped.new.self (record thief.outlet.tasks { saw = thief.outlet.tasks.saw || c.stopped.result }) c.stopped.ensures refl) w))

use Rattle.std.proofs.Common.{[], sym, subst}
use Rattle.std.specs.List.{AllByRecursion}
use Rattle.yew_laws.specs.SearchTree.{search_tree, IsTask}
use Rattle.yew_laws.specs.declared.problem.Task.{Task}
use Rattle.yew_stack.specs.Splits.{paths_of}
use Rattle.yew_walk.specs.LogViews.{log_view}
use Rattle.yew_crew.specs.Rounds.{thief_station}
use Rattle.yew_crew.specs.Stations.{searched}
use Rattle.yew_crew.specs.declared.coord.Coord.TheVariants.{Steal}
use Rattle.yew_crew.specs.Working.{IsWorking}
use Rattle.yew_crew.proofs.Putting.{AllByRecursion-reverse}
use Rattle.yew_crew.proofs.StealRounds.{work-idle, work-over, work-order, gift-bag}
use Rattle.yew_crew.proofs.steal_worker.idle_round.Goals as goal

pub returns-in-Gift-clause-round : goal.returns-in-Gift-clause-round
returns-in-Gift-clause-round g c = λ first w.
    let s = searched (search_tree g.P.Problem c.args.problem.now) (g.T.Tally.join c.args.tally.now) (g.T.Tally.none c.args.tally.now) (g.T.Tally.of c.args.tally.now)
    (λ l. log_view (g.R.Recorder.told l) (g.R.Recorder.totals l) (g.R.Recorder.number l)) (Steal c.args.chunk) c.args.gap in
    let thief = c.args.thief.now in
    let tasks = c.in-Gift.tasks.items in
    work-order s _ _ first (thief_station (record thief { outlet = c.idle.new.self })) (gift-bag tasks _ c.reverse.ensures.permutation)
    (work-idle s tasks [] first thief c.idle.new.self c.in-Gift.ensures.0 w)

pub returns-in-Gift-clause-gift : goal.returns-in-Gift-clause-gift
returns-in-Gift-clause-gift g c =
    subst (AllByRecursion (λ (task : Task _). IsTask g.P.Problem c.args.problem.now task.path.numbers task.node)) (sym c.reverse.ensures.items)
    (AllByRecursion-reverse (λ (task : Task _). IsTask g.P.Problem c.args.problem.now task.path.numbers task.node) c.in-Gift.tasks.items
    (subst (λ p. AllByRecursion (λ (task : Task _). IsTask g.P.Problem p task.path.numbers task.node) c.in-Gift.tasks.items) c.requires.outlet c.in-Gift.ensures.2))

pub returns-in-Nothing-clause-round : goal.returns-in-Nothing-clause-round
returns-in-Nothing-clause-round g c = λ first w.
    let s = searched (search_tree g.P.Problem c.args.problem.now) (g.T.Tally.join c.args.tally.now) (g.T.Tally.none c.args.tally.now) (g.T.Tally.of c.args.tally.now)
    (λ l. log_view (g.R.Recorder.told l) (g.R.Recorder.totals l) (g.R.Recorder.number l)) (Steal c.args.chunk) c.args.gap in
    let thief = c.args.thief.now in
    subst (λ items. IsWorking s (paths_of items) first (thief_station (record thief { outlet = c.idle.new.self }))) (sym c.requires.gift) (work-idle s [] [] first thief c.idle.new.self c.in-Nothing.ensures.0 w)

pub returns-in-Over-clause-round : goal.returns-in-Over-clause-round
returns-in-Over-clause-round g c = λ first w.
    work-over (search_tree g.P.Problem c.args.problem.now) (g.T.Tally.join c.args.tally.now) (g.T.Tally.none c.args.tally.now) (g.T.Tally.of c.args.tally.now)
    (λ l. log_view (g.R.Recorder.told l) (g.R.Recorder.totals l) (g.R.Recorder.number l)) (Steal c.args.chunk) c.args.gap c.in-Over.end first c.args.thief.now c.idle.new.self c.in-Over.ensures.0 c.in-Over.ensures.1 w

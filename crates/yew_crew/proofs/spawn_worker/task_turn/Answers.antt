use Rattle.std.proofs.Common.{[]}
use Rattle.yew_laws.specs.SearchTree.{search_tree}
use Rattle.yew_walk.specs.LogViews.{log_view}
use Rattle.yew_crew.specs.Stations.{searched}
use Rattle.yew_crew.specs.Turns.{station_of}
use Rattle.yew_crew.proofs.WorkSteps.{work-more}
use Rattle.yew_crew.proofs.WorkerTurns.{turn-broken}
use Rattle.yew_crew.proofs.spawn_worker.task_turn.Goals as goal

pub returns-in-Ok-clause-turned : goal.returns-in-Ok-clause-turned
returns-in-Ok-clause-turned g c = λ first fits w.
    work-more
    (searched (search_tree g.P.Problem c.args.problem.now) (g.T.Tally.join c.args.tally.now) (g.T.Tally.none c.args.tally.now) (g.T.Tally.of c.args.tally.now)
    (λ l. log_view (g.R.Recorder.told l) (g.R.Recorder.totals l) (g.R.Recorder.number l)) c.args.coord c.args.gap)
    (g.T.Tally.monoid c.args.tally.now) (g.T.Tally.of_fits c.args.tally.now) c.args.task.path.numbers [] first (station_of c.args.spawner.now)
    (station_of c.walk_task.new.spawner)
    fits w c.in-Ok.ensures.step

pub returns-in-Err-clause-turned : goal.returns-in-Err-clause-turned
returns-in-Err-clause-turned g c = λ first fits w.
    turn-broken (search_tree g.P.Problem c.args.problem.now) (g.T.Tally.join c.args.tally.now) (g.T.Tally.none c.args.tally.now)
    (g.T.Tally.of c.args.tally.now)
    (λ l. log_view (g.R.Recorder.told l) (g.R.Recorder.totals l) (g.R.Recorder.number l)) c.args.coord c.args.gap c.args.task.path.numbers c.in-Err.fault first
    c.args.spawner.now c.walk_task.new.spawner
    c.stop.new.self c.stop.ensures w c.in-Err.ensures.refused

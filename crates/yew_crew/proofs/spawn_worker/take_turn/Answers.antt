use Rattle.yew_laws.specs.SearchTree.{search_tree}
use Rattle.yew_walk.specs.LogViews.{log_view}
use Rattle.yew_crew.specs.Stations.{searched}
use Rattle.yew_crew.proofs.WorkerTurns.{turn-looked, turn-took, turn-empty, turn-stopped, turn-done}
use Rattle.yew_crew.proofs.spawn_worker.take_turn.Goals as goal

pub returns-then-stopped-clause-turned : goal.returns-then-stopped-clause-turned
returns-then-stopped-clause-turned g c = λ first fits w.
    turn-stopped (search_tree g.P.Problem c.args.problem.now) (g.T.Tally.join c.args.tally.now) (g.T.Tally.none c.args.tally.now)
    (g.T.Tally.of c.args.tally.now)
    (λ l. log_view (g.R.Recorder.told l) (g.R.Recorder.totals l) (g.R.Recorder.number l)) c.args.coord c.args.gap first c.args.spawner.now c.stopped.new.self
    c.stopped.result c.if-stopped.true c.stopped.ensures w

pub returns-in-Task-clause-turned : goal.returns-in-Task-clause-turned
returns-in-Task-clause-turned g c = λ first fits w.
    let s = searched (search_tree g.P.Problem c.args.problem.now) (g.T.Tally.join c.args.tally.now) (g.T.Tally.none c.args.tally.now)
    (g.T.Tally.of c.args.tally.now)
    (λ l. log_view (g.R.Recorder.told l) (g.R.Recorder.totals l) (g.R.Recorder.number l)) c.args.coord c.args.gap in
    let looked = record c.args.spawner.now { outlet = c.stopped.new.self } in
    c.task_turn.ensures.turned first fits
    (turn-took s first looked c.take.new.self c.in-Task.task c.in-Task.ensures.task.0 c.in-Task.ensures.task.1
    (turn-looked s first c.args.spawner.now c.stopped.new.self _ c.stopped.ensures w))

pub returns-then-load-eq0-clause-turned : goal.returns-then-load-eq0-clause-turned
returns-then-load-eq0-clause-turned g c = λ first fits w.
    let s = searched (search_tree g.P.Problem c.args.problem.now) (g.T.Tally.join c.args.tally.now) (g.T.Tally.none c.args.tally.now)
    (g.T.Tally.of c.args.tally.now)
    (λ l. log_view (g.R.Recorder.told l) (g.R.Recorder.totals l) (g.R.Recorder.number l)) c.args.coord c.args.gap in
    let looked = record c.args.spawner.now { outlet = c.stopped.new.self } in
    turn-done (search_tree g.P.Problem c.args.problem.now) (g.T.Tally.join c.args.tally.now) (g.T.Tally.none c.args.tally.now) (g.T.Tally.of c.args.tally.now)
    (λ l. log_view (g.R.Recorder.told l) (g.R.Recorder.totals l) (g.R.Recorder.number l)) c.args.coord c.args.gap first (record looked { outlet = c.take.new.self })
    c.load.new.self c.load.result c.if-load-eq0.true c.load.ensures.loaded c.load.ensures.whole
    (turn-empty s first looked c.take.new.self c.in-Empty.ensures.empty (turn-looked s first c.args.spawner.now c.stopped.new.self _ c.stopped.ensures w))

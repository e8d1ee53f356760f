use Rattle.std.proofs.Common.{◌≤◌, [], sym, subst}
use Rattle.yew_walk.specs.LogViews.{log_view}
use Rattle.yew_walk.proofs.Results.{OnOk-map}
use Rattle.yew_ranked.specs.Tasks.{numbered_task}
use Rattle.yew_ranked.proofs.TaskWalks.{task-walked, task-refused, task-unopened}
use Rattle.yew_ranked.proofs.worker.walk_task.Goals as goal

pub returns-in-Err-clause-refused : goal.returns-in-Err-clause-refused
returns-in-Err-clause-refused g c =
    task-unopened g.P.Problem c.args.problem.now (g.T.Tally.join c.args.tally.now) (g.T.Tally.none c.args.tally.now) (g.T.Tally.of c.args.tally.now)
    (λ l. log_view (g.R.Recorder.told l) (g.R.Recorder.totals l) (g.R.Recorder.number l)) (numbered_task c.args.task.now) c.args.station.now
    c.args.station.now.best c.args.station.now.hand c.args.station.now.log [] []

pub returns-clause-step : goal.returns-clause-step
returns-clause-step g c =
    let meaning = g.P.Problem in
    let problem = c.args.problem.now in
    let tally = c.args.tally.now in
    OnOk-map c.walk.result
    (λ walked. task-walked meaning problem (g.T.Tally.join tally) (g.T.Tally.none tally) (g.T.Tally.of tally)
    (λ l. log_view (g.R.Recorder.told l) (g.R.Recorder.totals l) (g.R.Recorder.number l)) (numbered_task c.args.task.now) c.args.station.now
    c.walk.new.seat c.walk.new.hand c.walk.new.log c.new-outlet.result.tasks.items c.walk.new.outlet.tasks.items
    c.in-Ok.opened.path.numbers c.in-Ok.ensures.path _ (meaning.ranked problem) c.requires.root c.requires.task.there walked
    c.walk.ensures.seat c.walk.ensures.share (subst (λ n. 65535 ≤ n) (sym c.walk.ensures.space) c.requires.space))
    c.walk.ensures.walked

use Rattle.std.proofs.Common.{rules}
use Rattle.yew_walk.specs.LogViews.{LogView, log_view}
use Rattle.yew_crew.proofs.RestFaults.{resting-refused}
use Rattle.yew_crew.proofs.Rests.{resting-begins, resting-task, resting-more, resting-ends}
use Rattle.yew_crew.proofs.ending.walk_rest.Goals as goal

pub loop-task-init : goal.loop-task-init
loop-task-init g c =
    let tally = c.args.tally.now in
    let seen : g.row.R.Denot → LogView = λ log. log_view (g.R.Recorder.told log) (g.R.Recorder.totals log) (g.R.Recorder.number log) in
    resting-begins g.P.Problem c.args.problem.now (g.T.Tally.join tally) (g.T.Tally.none tally) (g.T.Tally.of tally) seen c.args.gap (g.T.Tally.monoid tally) (g.T.Tally.of_fits tally) c.args.seat.now.best.table
    c.args.seat.now c.args.hand.now c.args.log.now c.args.left.items c.requires.fits c.requires.space c.requires.tasks

pub walk-requires-clause-task : goal.walk-requires-clause-task
walk-requires-clause-task g c κs within =
    let problem = c.args.problem.now in
    let tally = c.args.tally.now in
    let seen : g.row.R.Denot → LogView = λ log. log_view (g.R.Recorder.told log) (g.R.Recorder.totals log) (g.R.Recorder.number log) in
    resting-task g.P.Problem problem (g.T.Tally.join tally) (g.T.Tally.none tally) (g.T.Tally.of tally) seen c.args.gap (g.T.Tally.monoid tally) (g.T.Tally.of_fits tally) c.args.seat.now.best.table
    c.args.seat.now c.args.hand.now c.args.log.now c.loop-task.seat c.loop-task.hand c.loop-task.log c.args.left.items c.loop-task.left.items c.pop.new.self.items c.in-Some.task
    (g.P.Problem.ranked problem) c.requires.root c.in-Some.ensures.items c.loop-task.invariant

pub loop-task-preserved : goal.loop-task-preserved
loop-task-preserved g c =
    let problem = c.args.problem.now in
    let tally = c.args.tally.now in
    let seen : g.row.R.Denot → LogView = λ log. log_view (g.R.Recorder.told log) (g.R.Recorder.totals log) (g.R.Recorder.number log) in
    let w = c.in-Ok.ensures in
    resting-more g.P.Problem problem (g.T.Tally.join tally) (g.T.Tally.none tally) (g.T.Tally.of tally) seen c.args.gap (g.T.Tally.monoid tally) (g.T.Tally.of_fits tally) c.args.seat.now.best.table
    c.args.seat.now c.args.hand.now c.args.log.now c.loop-task.seat c.loop-task.hand c.loop-task.log c.walk.new.seat c.walk.new.hand c.walk.new.log c.args.left.items c.loop-task.left.items c.pop.new.self.items c.in-Some.task _
    c.new-outlet.result.tasks.items c.walk.new.outlet.tasks.items (g.P.Problem.ranked problem) c.requires.root c.in-Some.ensures.items c.loop-task.invariant w.walked w.seat w.share w.space w.fits

pub returns-clause-ok : goal.returns-clause-ok
returns-clause-ok g c =
    let problem = c.args.problem.now in
    let tally = c.args.tally.now in
    let seen : g.row.R.Denot → LogView = λ log. log_view (g.R.Recorder.told log) (g.R.Recorder.totals log) (g.R.Recorder.number log) in
    resting-ends g.P.Problem problem (g.T.Tally.join tally) (g.T.Tally.none tally) (g.T.Tally.of tally) seen c.args.gap (g.T.Tally.monoid tally) (g.T.Tally.of_fits tally) c.args.seat.now.best.table
    c.args.seat.now c.args.hand.now c.args.log.now c.loop-task.seat c.loop-task.hand c.loop-task.log c.args.left.items c.loop-task.left.items (search rules) c.loop-task.invariant

pub returns-in-Err-clause-refused : goal.returns-in-Err-clause-refused
returns-in-Err-clause-refused g c =
    let problem = c.args.problem.now in
    let tally = c.args.tally.now in
    let seen : g.row.R.Denot → LogView = λ log. log_view (g.R.Recorder.told log) (g.R.Recorder.totals log) (g.R.Recorder.number log) in
    let task = c.in-Some in
    resting-refused g.P.Problem problem (g.T.Tally.join tally) (g.T.Tally.none tally) (g.T.Tally.of tally) seen c.args.gap (g.T.Tally.monoid tally)
    (g.T.Tally.of_fits tally) c.args.seat.now.best.table
    c.args.seat.now c.args.hand.now c.args.log.now c.loop-task.seat c.loop-task.hand c.loop-task.log c.walk.new.seat c.walk.new.hand c.walk.new.log
    c.args.left.items c.loop-task.left.items c.pop.new.self.items task.task c.new-outlet.result.tasks.items c.walk.new.outlet.tasks.items c.in-Err.fault
    task.ensures.items c.loop-task.invariant c.in-Err.ensures.refused

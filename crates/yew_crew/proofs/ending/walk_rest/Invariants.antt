use Rattle.std.specs.Prelude.{vec_len}
use Rattle.yew_walk.specs.LogViews.{log_view}
use Rattle.yew_crew.proofs.Rests.{IsResting}
use Rattle.yew_crew.proofs.ending.walk_rest.Given as goal

abbrev pub invariant-loop-task : goal.invariant-loop-task
invariant-loop-task g l =
    IsResting g.P.Problem l.problem (g.T.Tally.join l.tally) (g.T.Tally.none l.tally) (g.T.Tally.of l.tally)
    (λ log. log_view (g.R.Recorder.told log) (g.R.Recorder.totals log) (g.R.Recorder.number log)) l.gap (g.T.Tally.monoid l.tally) (g.T.Tally.of_fits l.tally) l.initial.seat.best.table
    l.initial.seat l.initial.hand l.initial.log l.seat l.hand l.log l.fn.left.items l.left.items

abbrev pub decreases-loop-task : goal.decreases-loop-task
decreases-loop-task g l = vec_len l.left

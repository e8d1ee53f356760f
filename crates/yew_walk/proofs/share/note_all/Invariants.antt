use Rattle.yew_stack.specs.Splits.{paths_of}
use Rattle.yew_walk.specs.LogViews.{log_view}
use Rattle.yew_walk.specs.Noting.{HasNoted}
use Rattle.yew_walk.proofs.share.note_all.Given as goal

-- the entries for the tasks so far were recorded
abbrev pub invariant-loop-task : goal.invariant-loop-task
invariant-loop-task g l =
    HasNoted (log_view (g.R.Recorder.told l.fn.log) (g.R.Recorder.totals l.fn.log) (g.R.Recorder.number l.fn.log)) l.what (paths_of l.tasks) l.task-index
    (log_view (g.R.Recorder.told l.log) (g.R.Recorder.totals l.log) (g.R.Recorder.number l.log))

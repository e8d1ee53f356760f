use Rattle.std.proofs.Common.{◌≡◌, map, drop}
use Rattle.yew_app.specs.Searches.{totals_from, joint_totals}
use Rattle.yew_app.proofs.tail.totals_together.Given as goal

-- the totals so far, with those of the logs that are left, are the totals of all
abbrev pub invariant-loop-log : goal.invariant-loop-log
invariant-loop-log g l =
    totals_from l.together (map (λ log. g.R.Recorder.totals log) (drop l.log-index l.logs)) ≡ joint_totals (map (λ log. g.R.Recorder.totals log) l.logs)

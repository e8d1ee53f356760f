use Rattle.std.proofs.Common.{◌≡◌, ◌≤◌, ◌+◌, ◌-◌, length}
use Rattle.yew_walk.specs.LogViews.{log_view}
use Rattle.yew_ranked.specs.Starting.{IsSharing}
use Rattle.yew_ranked.proofs.starting.make_stations.Given as goal

-- the stations so far are those of the others below this number
abbrev pub invariant-loop-number : goal.invariant-loop-number
invariant-loop-number g l =
    record {
      number_is : l.number ≡ length l.stations.items + 2;
      within : l.number ≤ l.workers + 1;
      sharing : IsSharing (g.T.Tally.none l.tally) (λ log. log_view (g.R.Recorder.told log) (g.R.Recorder.totals log) (g.R.Recorder.number log)) l.shared l.workers l.fn.first l.first l.stations.items;
    }

abbrev pub decreases-loop-number : goal.decreases-loop-number
decreases-loop-number g l = l.workers + 1 - l.number

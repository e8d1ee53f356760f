use Rattle.std.proofs.Common.{◌-◌, length, map}
use Rattle.yew_laws.specs.SearchTree.{search_tree}
use Rattle.yew_walk.specs.LogViews.{log_view}
use Rattle.yew_ranked.specs.Stations.{IsWorking}
use Rattle.yew_ranked.specs.Tasks.{numbered_task}
use Rattle.yew_ranked.proofs.worker.ranked_worker.Given as goal

-- between two turns the worker has walked the tasks at the places that it has claimed
abbrev pub invariant-loop-end : goal.invariant-loop-end
invariant-loop-end g l =
    record {
      fits : g.T.Tally.fits l.tally l.station.hand.sum;
      working : IsWorking (search_tree g.P.Problem l.problem) (g.T.Tally.join l.tally) (g.T.Tally.none l.tally) (g.T.Tally.of l.tally)
          (λ x. log_view (g.R.Recorder.told x) (g.R.Recorder.totals x) (g.R.Recorder.number x)) (map numbered_task l.shared.tasks.items) l.fn.station l.station;
    }

abbrev pub decreases-loop-end : goal.decreases-loop-end
decreases-loop-end g l = length l.shared.tasks.items - length l.station.claims.claimed

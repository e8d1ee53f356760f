use Rattle.std.proofs.Common.{◌≡◌, []}
use Rattle.yew_laws.specs.SearchTree.{search_tree}
use Rattle.yew_walk.specs.LogViews.{log_view}
use Rattle.yew_crew.specs.Stations.{searched}
use Rattle.yew_crew.specs.Turns.{station_of}
use Rattle.yew_crew.specs.Working.{IsWorking}
use Rattle.yew_crew.proofs.spawn_worker.spawn_worker.Given as goal

-- between two turns there is nothing left to walk
abbrev pub invariant-loop : goal.invariant-loop
invariant-loop g l =
    record {
      problem : l.spawner.outlet.problem ≡ l.problem;
      fits : g.T.Tally.fits l.tally l.spawner.hand.sum;
      working : IsWorking (searched (search_tree g.P.Problem l.problem) (g.T.Tally.join l.tally) (g.T.Tally.none l.tally) (g.T.Tally.of l.tally)
          (λ x. log_view (g.R.Recorder.told x) (g.R.Recorder.totals x) (g.R.Recorder.number x)) l.coord l.shared.gap) [] l.fn.station (station_of l.spawner);
    }

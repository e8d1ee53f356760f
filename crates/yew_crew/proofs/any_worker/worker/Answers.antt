use Rattle.std.proofs.Common.{sym, subst}
use Rattle.yew_laws.specs.SearchTree.{search_tree}
use Rattle.yew_walk.specs.LogViews.{log_view}
use Rattle.yew_crew.specs.Reports.{IsReport}
use Rattle.yew_crew.specs.Stations.{searched}
use Rattle.yew_crew.specs.declared.coord.Coord.{Coord}
use Rattle.yew_crew.proofs.any_worker.worker.Goals as goal

pub returns-in-Steal-clause-report : goal.returns-in-Steal-clause-report
returns-in-Steal-clause-report g c =
    subst (λ (coord : Coord). IsReport (searched (search_tree g.P.Problem c.args.problem.now) (g.T.Tally.join c.args.tally.now)
    (g.T.Tally.none c.args.tally.now) (g.T.Tally.of c.args.tally.now)
    (λ l. log_view (g.R.Recorder.told l) (g.R.Recorder.totals l) (g.R.Recorder.number l)) coord c.args.shared.now.gap)
    c.args.station c.steal_worker.result) (sym c.in-Steal.is) c.steal_worker.ensures.report

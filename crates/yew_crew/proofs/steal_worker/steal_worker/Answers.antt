use Rattle.yew_laws.specs.SearchTree.{search_tree}
use Rattle.yew_walk.specs.LogViews.{log_view}
use Rattle.yew_crew.specs.Rounds.{thief_station}
use Rattle.yew_crew.specs.declared.coord.Coord.TheVariants.{Steal}
use Rattle.yew_crew.proofs.StealRounds.{end-reported}
use Rattle.yew_crew.proofs.steal_worker.steal_worker.Goals as goal

pub returns-clause-report : goal.returns-clause-report
returns-clause-report g c =
    end-reported (search_tree g.P.Problem c.args.problem.now) (g.T.Tally.join c.args.tally.now) (g.T.Tally.none c.args.tally.now) (g.T.Tally.of c.args.tally.now)
    (λ l. log_view (g.R.Recorder.told l) (g.R.Recorder.totals l) (g.R.Recorder.number l)) (Steal c.args.chunk) c.args.shared.now.gap c.args.station (thief_station c.all_rounds-end.new.thief)
    c.all_rounds-end.result c.report.result c.report.ensures c.all_rounds-end.ensures.same c.all_rounds-end.ensures.end

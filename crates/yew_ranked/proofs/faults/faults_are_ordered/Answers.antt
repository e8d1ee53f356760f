use Rattle.yew_laws.specs.SearchTree.{search_tree}
use Rattle.yew_walk.specs.LogViews.{log_view}
use Rattle.yew_ranked.proofs.OrderedFaults.{worked-explained}
use Rattle.yew_ranked.proofs.faults.faults_are_ordered.Goals as goal

pub returns : goal.returns
returns g c =
    let problem = c.args.problem.now in
    worked-explained (search_tree g.P.Problem problem) (g.P.Problem.ranked problem) (g.P.Problem.bounded problem) c.requires
    (g.T.Tally.join c.args.tally.now) (g.T.Tally.none c.args.tally.now) (g.T.Tally.of c.args.tally.now)
    (λ log. log_view (g.R.Recorder.told log) (g.R.Recorder.totals log) (g.R.Recorder.number log)) _ (λ log told. (log, told))

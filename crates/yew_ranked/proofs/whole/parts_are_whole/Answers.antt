use Rattle.yew_laws.specs.SearchTree.{search_tree}
use Rattle.yew_walk.specs.LogViews.{log_view}
use Rattle.yew_ranked.proofs.OrderedFinds.{worked-found}
use Rattle.yew_ranked.proofs.whole.parts_are_whole.Goals as goal

pub returns : goal.returns
returns g c =
    let problem = c.args.problem.now in let meaning = g.P.Problem in let tally = c.args.tally.now in
    λ depth workers tasks reports found logs above worked done settled gathered logs_are fits.
    worked-found (search_tree meaning problem) (g.T.Tally.join tally) (g.T.Tally.none tally) (g.T.Tally.of tally) (λ log. log_view (g.R.Recorder.told log) (g.R.Recorder.totals log) (g.R.Recorder.number log))
    (meaning.ranked problem) (meaning.bounded problem) c.requires (g.T.Tally.monoid tally) (g.T.Tally.of_fits tally) depth workers tasks reports above worked done settled found logs gathered logs_are

use Rattle.yew_calls.proofs.ReorderedTrees.{reordered-fold}
use Rattle.yew_calls.proofs.laws.reordered_fold.Goals as goal

pub returns : goal.returns
returns g c =
    let inner = c.args.reordered.now.inner.now in
    let tally = c.args.tally.now in
    reordered-fold (g.T.Tally.monoid tally) (g.P.Problem.ranked inner) (g.M.KeyShape.key inner) (g.P.Problem.root inner) c.requires (g.T.Tally.of tally) (g.T.Tally.of_fits tally)

use Rattle.yew_calls.proofs.ReorderedTrees.{reordered-bag, reordered-greatest, reordered-reach}
use Rattle.yew_calls.proofs.laws.reordered_members.Goals as goal

pub returns-clause-members : goal.returns-clause-members
returns-clause-members g c =
    let inner = c.args.reordered.now.inner.now in
    reordered-bag (g.P.Problem.ranked inner) (g.M.KeyShape.key inner) (g.P.Problem.root inner) c.requires

pub returns-clause-greatest : goal.returns-clause-greatest
returns-clause-greatest g c =
    let inner = c.args.reordered.now.inner.now in
    reordered-greatest (g.P.Problem.ranked inner) (g.M.KeyShape.key inner) (g.P.Problem.root inner) c.requires (g.P.Problem.worth inner)

pub returns-clause-reach : goal.returns-clause-reach
returns-clause-reach g c = λ target.
    let inner = c.args.reordered.now.inner.now in
    reordered-reach (g.P.Problem.ranked inner) (g.M.KeyShape.key inner) (g.P.Problem.root inner) c.requires (g.P.Problem.worth inner) target

use Rattle.yew_laws.specs.SearchTree.{search_tree}
use Rattle.yew_app.proofs.PlainAudits.{meets-large}
use Rattle.yew_app.proofs.laws.small_trees_fit.Goals as goal

pub returns : goal.returns
returns g c = λ gap small meets. small (meets-large (search_tree g.P.Problem c.args.problem.now) gap (g.P.Problem.ranked c.args.problem.now) c.requires meets)

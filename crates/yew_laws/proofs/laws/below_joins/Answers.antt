use Rattle.yew_laws.specs.SearchTree.{search_tree, below}
use Rattle.yew_laws.proofs.Bags.{same-flat_map}
use Rattle.yew_laws.proofs.laws.below_joins.Goals as goal

pub returns-clause-same : goal.returns-clause-same
returns-clause-same g c =
    λ xs ys same. same-flat_map (below (search_tree g.P.Problem c.args.problem.now)) same

use Rattle.yew_laws.specs.SearchTree.{search_tree, preorder}
use Rattle.yew_kinds.proofs.DepthFolds.{fold-members_at}
use Rattle.yew_kinds.proofs.laws.fold_by_depth.Goals as goal

pub returns : goal.returns
returns g c = fold-members_at c.args.tally.depths (preorder (search_tree g.P.Problem c.args.problem.now))

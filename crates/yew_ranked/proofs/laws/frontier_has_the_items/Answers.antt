use Rattle.yew_laws.specs.SearchTree.{search_tree}
use Rattle.yew_ranked.proofs.FrontierItems.{frontier_log-items}
use Rattle.yew_ranked.proofs.laws.frontier_has_the_items.Goals as goal

pub returns : goal.returns
returns g c = frontier_log-items (search_tree g.P.Problem c.args.problem.now)

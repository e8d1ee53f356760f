use Rattle.yew_laws.specs.SearchTree.{search_tree}
use Rattle.yew_ranked.proofs.ItemPlaces.{in_items-rise}
use Rattle.yew_ranked.proofs.laws.items_rise.Goals as goal

pub returns : goal.returns
returns g c = in_items-rise (search_tree g.P.Problem c.args.problem.now)

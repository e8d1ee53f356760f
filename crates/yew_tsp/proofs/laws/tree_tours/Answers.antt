use Rattle.yew_tsp.proofs.TreeIs.{tree-tours}
use Rattle.yew_tsp.proofs.laws.tree_tours.Goals as goal

pub returns : goal.returns
returns c = tree-tours c.args.problem.now c.requires

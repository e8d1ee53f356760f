use Rattle.yew_flow.proofs.TreeIs.{tree-orders}
use Rattle.yew_flow.proofs.laws.tree_orders.Goals as goal

pub returns : goal.returns
returns c = tree-orders c.args.problem.now c.requires

use Rattle.yew_knap.proofs.Packs.{tree-packs}
use Rattle.yew_knap.proofs.laws.tree_packs.Goals as goal

pub returns : goal.returns
returns c = tree-packs c.args.problem.now c.requires

use Rattle.yew_lad.proofs.MapTree.{tree-maps}
use Rattle.yew_lad.proofs.laws.tree_maps.Goals as goal

pub returns : goal.returns
returns c = tree-maps c.args.problem.now c.requires

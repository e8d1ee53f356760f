use Rattle.std.proofs.Common.{arith}
use Rattle.yew_lad.proofs.nodes.MapNode.root.Goals as goal

pub invariant_of-result : goal.invariant_of-result
invariant_of-result c = (omega arith, tt)

use Rattle.yew_make.proofs.Triangles.{pairs_in_order}
use Rattle.yew_make.proofs.laws.pairs_in_order.Goals as goal

pub returns : goal.returns
returns c = pairs_in_order

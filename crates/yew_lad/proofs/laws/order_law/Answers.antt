use Rattle.yew_lad.proofs.OrderIs.{searched_order-is}
use Rattle.yew_lad.proofs.laws.order_law.Goals as goal

pub returns : goal.returns
returns c = searched_order-is

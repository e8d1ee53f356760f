use Rattle.yew_laws.proofs.Bags.{append-cancels}
use Rattle.yew_laws.proofs.laws.bags_cancel.Goals as goal

pub returns : goal.returns
returns g c = append-cancels

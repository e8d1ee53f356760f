use Rattle.yew_crew.proofs.GroupLaws.{root-taken}
use Rattle.yew_crew.proofs.laws.root_is_taken.Goals as goal

pub returns : goal.returns
returns g c = λ gap. root-taken _ gap _ _ _

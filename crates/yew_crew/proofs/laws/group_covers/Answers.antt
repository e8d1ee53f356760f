use Rattle.yew_crew.proofs.GroupLaws.{group-covers, group-attained}
use Rattle.yew_crew.proofs.laws.group_covers.Goals as goal

pub returns-clause-cover : goal.returns-clause-cover
returns-clause-cover g c = λ gap. group-covers _ gap _ _ _

pub returns-clause-attained : goal.returns-clause-attained
returns-clause-attained g c = λ gap. group-attained _ gap _ _ _

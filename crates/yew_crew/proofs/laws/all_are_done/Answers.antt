use Rattle.yew_crew.proofs.CrewEnds.{all-done}
use Rattle.yew_crew.proofs.laws.all_are_done.Goals as goal

pub returns : goal.returns
returns g c = λ coord gap. all-done _

use Rattle.yew_crew.proofs.CrewWork.{work-twice}
use Rattle.yew_crew.proofs.laws.work_goes_on.Goals as goal

pub returns : goal.returns
returns g c = λ coord gap. work-twice _ (g.T.Tally.monoid c.args.tally.now) (g.T.Tally.of_fits c.args.tally.now)

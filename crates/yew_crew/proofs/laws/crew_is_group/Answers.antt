use Rattle.yew_crew.proofs.CrewWork.{crew-work}
use Rattle.yew_crew.proofs.laws.crew_is_group.Goals as goal

pub returns : goal.returns
returns g c = λ coord gap. crew-work _ (g.T.Tally.monoid c.args.tally.now) (g.T.Tally.of_fits c.args.tally.now)

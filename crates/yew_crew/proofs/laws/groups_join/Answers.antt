use Rattle.yew_crew.proofs.GroupLaws.{balanced-together, balanced-all}
use Rattle.yew_crew.proofs.laws.groups_join.Goals as goal

pub returns-clause-two : goal.returns-clause-two
returns-clause-two g c = λ gap. balanced-together _ gap _ _ (g.T.Tally.monoid c.args.tally.now) _ (g.T.Tally.of_fits c.args.tally.now)

pub returns-clause-all : goal.returns-clause-all
returns-clause-all g c = λ gap. balanced-all _ gap _ _ (g.T.Tally.monoid c.args.tally.now) _ (g.T.Tally.of_fits c.args.tally.now)

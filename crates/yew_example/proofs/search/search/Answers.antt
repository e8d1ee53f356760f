use Rattle.yew_example.specs.NodeLaws.{empty_sound}
use Rattle.yew_example.proofs.search.search.Goals as goal

pub search_plain-found-requires-clause-root : goal.search_plain-found-requires-clause-root
search_plain-found-requires-clause-root g c κs = empty_sound c.args.problem.now.graph c.args.problem.now.number

pub search_crew-found-requires-clause-root : goal.search_crew-found-requires-clause-root
search_crew-found-requires-clause-root g c κs within = empty_sound c.args.problem.now.graph c.args.problem.now.number

pub search_ordered-found-requires-clause-root : goal.search_ordered-found-requires-clause-root
search_ordered-found-requires-clause-root g c κs within = empty_sound c.args.problem.now.graph c.args.problem.now.number

use Rattle.yew_crew.proofs.KindAnswers.{counts-all, path-with, logs-only}
use Rattle.yew_laws.specs.SearchTree.{search_tree}
use Rattle.yew_walk.specs.Hands.{incumbent_of}
use Rattle.yew_ranked.proofs.ordered.count.Goals as goal

pub returns-in-Ok-clause-answer : goal.returns-in-Ok-clause-answer
returns-in-Ok-clause-answer g c = c.in-Ok.ensures.found.sum_is (counts-all (search_tree g.P.Problem c.args.problem.now))

pub returns-in-Ok-clause-logs : goal.returns-in-Ok-clause-logs
returns-in-Ok-clause-logs g c =
    let named = path-with (incumbent_of c.in-Ok.field-0.hand).path in
    logs-only _ 0 _ _ _ _ (c.in-Ok.ensures.found.has_logs named.0 named.1)

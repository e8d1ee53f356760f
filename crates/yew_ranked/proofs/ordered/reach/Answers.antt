use Rattle.std.proofs.Common.{◌∙◌}
use Rattle.yew_laws.specs.SearchTree.{search_tree}
use Rattle.yew_walk.proofs.Bests.{first_best-reached}
use Rattle.yew_ranked.proofs.ordered.reach.Goals as goal

pub returns-in-Ok-clause-answer : goal.returns-in-Ok-clause-answer
returns-in-Ok-clause-answer g c =
    let problem = c.args.problem.now in
    first_best-reached (search_tree g.P.Problem problem) (g.P.Problem.ranked problem) c.requires.root c.args.target c.into_path.result (c.into_path.ensures ∙ c.in-Ok.ensures.found.first.path_is)

pub returns-in-Ok-clause-logs : goal.returns-in-Ok-clause-logs
returns-in-Ok-clause-logs g c = c.in-Ok.ensures.found.has_logs c.into_path.result c.into_path.ensures

use Rattle.std.proofs.Common.{◌∙◌, ◌/◌, ◌^◌, ap}
use Rattle.yew_laws.specs.SearchTree.{search_tree}
use Rattle.yew_walk.proofs.Bests.{first_best-best}
use Rattle.yew_ranked.proofs.ordered.best.Goals as goal

pub returns-in-Ok-clause-answer : goal.returns-in-Ok-clause-answer
returns-in-Ok-clause-answer g c =
    let problem = c.args.problem.now in
    let first = c.in-Ok.ensures.found.first in
    first_best-best (search_tree g.P.Problem problem) (g.P.Problem.ranked problem) c.requires.root _ c.into_path-path.result
    (ap (λ key. key / 2 ^ 20) c.best_key-worth.ensures ∙ first.worth_is) (c.into_path-path.ensures ∙ first.path_is)

pub returns-in-Ok-clause-logs : goal.returns-in-Ok-clause-logs
returns-in-Ok-clause-logs g c = c.in-Ok.ensures.found.has_logs c.into_path-path.result c.into_path-path.ensures

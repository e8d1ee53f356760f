use Rattle.std.proofs.Common.{◌∙◌, ap}
use Rattle.yew_laws.specs.Incumbent.{Incumbent}
use Rattle.yew_laws.specs.SearchTree.{search_tree}
use Rattle.yew_walk.proofs.Bests.{first_best-best}
use Rattle.yew_walk.proofs.FirstFinds.{found_worth-none, found_path-none}
use Rattle.yew_walk.proofs.search.best.Goals as goal

pub returns-in_ok-only_log-in-Ok-clause-answer : goal.returns-in_ok-only_log-in-Ok-clause-answer
returns-in_ok-only_log-in-Ok-clause-answer g c =
    let problem = c.args.problem.now in
    let t = search_tree g.P.Problem problem in
    let ranked = g.P.Problem.ranked problem in
    let bounded = g.P.Problem.bounded problem in
    let is = c.in-Ok.ensures.best in
    first_best-best t ranked c.requires c.best_key-worth.result c.into_path-path.result
    (c.best_key-worth.ensures ∙ ap (λ (i : Incumbent). i.worth) is ∙ found_worth-none t ranked bounded c.requires)
    (c.into_path-path.ensures ∙ ap (λ (i : Incumbent). i.path) is ∙ found_path-none t ranked bounded c.requires)

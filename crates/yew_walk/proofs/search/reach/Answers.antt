use Rattle.std.proofs.Common.{◌∙◌, ap}
use Rattle.yew_laws.specs.Incumbent.{Incumbent}
use Rattle.yew_laws.specs.SearchTree.{search_tree}
use Rattle.yew_kinds.specs.WrapperLaws.{clipped-bounded}
use Rattle.yew_kinds.specs.Wrappers.{clipped_tree}
use Rattle.yew_walk.proofs.Bests.{first_best-reached}
use Rattle.yew_walk.proofs.FirstFinds.{found_path-none}
use Rattle.yew_walk.proofs.search.reach.Goals as goal

pub returns-in_ok-only_log-in-Ok-clause-answer : goal.returns-in_ok-only_log-in-Ok-clause-answer
returns-in_ok-only_log-in-Ok-clause-answer g c =
    let problem = c.args.problem.now in
    let t = search_tree g.P.Problem problem in
    let clipped = clipped_tree t c.args.target in
    let ranked = g.P.Problem.ranked problem in
    let bounded = clipped-bounded (g.P.Problem.bounded problem) c.args.target in
    first_best-reached t ranked c.requires.root c.args.target c.into_path.result
    (c.into_path.ensures ∙ ap (λ (i : Incumbent). i.path) c.in-Ok.ensures.best ∙ found_path-none clipped ranked bounded c.requires.root)

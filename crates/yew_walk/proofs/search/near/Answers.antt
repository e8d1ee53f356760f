use Rattle.std.proofs.Common.{◌∙◌, ap, sym, subst}
use Rattle.yew_laws.specs.Incumbent.{Incumbent}
use Rattle.yew_laws.specs.SearchTree.{search_tree}
use Rattle.yew_walk.specs.Answers.{IsNear}
use Rattle.yew_walk.proofs.FirstFinds.{found-near}
use Rattle.yew_walk.proofs.search.near.Goals as goal

pub returns-in_ok-only_log-in-Ok-clause-answer : goal.returns-in_ok-only_log-in-Ok-clause-answer
returns-in_ok-only_log-in-Ok-clause-answer g c =
    let problem = c.args.problem.now in
    let t = search_tree g.P.Problem problem in
    let is = c.in-Ok.ensures.best in
    let worth_is = c.best_key-worth.ensures ∙ ap (λ (i : Incumbent). i.worth) is in
    let path_is = c.into_path-path.ensures ∙ ap (λ (i : Incumbent). i.path) is in
    record {
      near = subst (λ worth. IsNear t c.args.gap worth c.into_path-path.result) (sym worth_is)
          (found-near t (g.P.Problem.ranked problem) c.requires.root c.args.gap (g.P.Problem.bounded problem) c.into_path-path.result path_is);
      worth_is = worth_is;
      path_is = path_is;
    }

use Rattle.yew_laws.specs.SearchTree.{search_tree}
use Rattle.yew_ranked.proofs.FrontierFull.{frontier-audit_full, frontier-full_worker}
use Rattle.yew_ranked.proofs.laws.frontier_full_is_audit_full.Goals as goal

pub returns : goal.returns
returns g c =
    let problem = c.args.problem.now in
    let t = search_tree g.P.Problem problem in
    let ranked = g.P.Problem.ranked problem in
    λ depth workers worker entries numbers first now new is.
    (frontier-audit_full t ranked c.requires depth first now new worker entries numbers is workers, frontier-full_worker t ranked c.requires depth first now new worker entries numbers is)

use Rattle.yew_laws.specs.SearchTree.{search_tree}
use Rattle.yew_log.proofs.FullTrees.{IsAuditFull-large}
use Rattle.yew_log.proofs.laws.full_audits_are_of_large_trees.Goals as goal

pub returns : goal.returns
returns g c =
    let problem = c.args.problem.now in
    λ gap workers entries numbers skeleton. IsAuditFull-large (search_tree g.P.Problem problem) (g.P.Problem.ranked problem) c.requires

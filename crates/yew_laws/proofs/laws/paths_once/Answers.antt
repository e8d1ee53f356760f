use Rattle.yew_laws.specs.SearchTree.{search_tree}
use Rattle.yew_laws.proofs.Once.{tree-once, cover-once}
use Rattle.yew_laws.proofs.laws.paths_once.Goals as goal

pub returns-clause-once : goal.returns-clause-once
returns-clause-once g c =
    let problem = c.args.problem.now in
    tree-once (search_tree g.P.Problem problem) (g.P.Problem.ranked problem) c.requires

pub returns-clause-cover : goal.returns-clause-cover
returns-clause-cover g c =
    let problem = c.args.problem.now in
    cover-once (search_tree g.P.Problem problem) (g.P.Problem.ranked problem) c.requires

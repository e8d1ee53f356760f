use Rattle.yew_laws.specs.SearchTree.{search_tree}
use Rattle.yew_walk.proofs.WorkerLogs.{walks-rise, walks-judged, walks-exact}
use Rattle.yew_walk.proofs.laws.walks_join.Goals as goal

pub returns : goal.returns
returns g c =
    let t = search_tree g.P.Problem c.args.problem.now in
    record {
      rises = walks-rise t;
      judged = walks-judged t;
      exact = walks-exact t;
    }

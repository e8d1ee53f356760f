use Rattle.yew_laws.specs.SearchTree.{search_tree}
use Rattle.yew_log.proofs.BrokenLogs.{segment-broken, broken_log-from_segments}
use Rattle.yew_log.proofs.laws.segments_are_broken_logs.Goals as goal

pub returns : goal.returns
returns g c =
    let problem = c.args.problem.now in
    let t = search_tree g.P.Problem problem in
    record {
      segment = segment-broken t (g.P.Problem.ranked problem) c.requires;
      log = broken_log-from_segments t;
    }

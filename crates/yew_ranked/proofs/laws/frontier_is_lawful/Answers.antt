use Rattle.std.proofs.Common.{refl}
use Rattle.yew_laws.specs.SearchTree.{search_tree}
use Rattle.yew_ranked.proofs.FrontierItems.{frontier_log-tasks}
use Rattle.yew_ranked.proofs.FrontierLawful.{frontier-segment, frontier-broken, frontier-groups, frontier-tasks_there, frontier-sent, frontier-unhanded}
use Rattle.yew_ranked.proofs.FrontierLawful.{frontier-rises, frontier-maximum, frontier-judged, frontier-front, frontier-front_maximum}
use Rattle.yew_ranked.proofs.laws.frontier_is_lawful.Goals as goal

pub returns : goal.returns
returns g c =
    let problem = c.args.problem.now in
    let t = search_tree g.P.Problem problem in
    let ranked = g.P.Problem.ranked problem in
    let root = c.requires in
    record {
      segment = λ levels. (refl, frontier-segment t ranked root levels, frontier-broken t ranked root levels);
      groups = λ levels. frontier-groups t ranked root levels;
      tasks = λ levels. (frontier_log-tasks t levels, frontier-tasks_there t ranked root levels);
      only_spawned = λ levels. (frontier-sent t ranked root levels, frontier-unhanded t ranked root levels);
      held = λ levels. (frontier-rises t ranked root levels, frontier-maximum t ranked root levels, frontier-judged t ranked root levels);
      fronts = λ levels notes rest e. (frontier-front t ranked root levels notes rest e, frontier-front_maximum t ranked root levels notes rest e);
    }

use Rattle.yew_laws.specs.SearchTree.{search_tree}
use Rattle.yew_log.proofs.SentKinds.{handed-depth, handed-budget, spawned-steal, in_order-none}
use Rattle.yew_log.proofs.laws.groups_send_one_kind.Goals as goal

pub returns : goal.returns
returns g c =
    let t = search_tree g.P.Problem c.args.problem.now in
    record {
      depth = handed-depth t;
      budget = handed-budget t;
      steal = spawned-steal t;
      in_order = in_order-none t;
    }

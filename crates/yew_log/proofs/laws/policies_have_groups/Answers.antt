use Rattle.yew_laws.specs.SearchTree.{search_tree}
use Rattle.yew_log.proofs.PolicyRows.{plain-groups, depth-groups, budget-groups, hungry-groups}
use Rattle.yew_log.proofs.laws.policies_have_groups.Goals as goal

pub returns : goal.returns
returns g c =
    let t = search_tree g.P.Problem c.args.problem.now in
    record {
      plain = λ answers body. plain-groups t answers body;
      depth = λ depth answers body. depth-groups t answers body depth;
      budget = λ every spent answers body some. budget-groups t answers body every spent some;
      hungry = λ part answers body. hungry-groups t answers body part;
    }

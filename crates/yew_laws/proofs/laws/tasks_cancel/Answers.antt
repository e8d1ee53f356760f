use Rattle.yew_laws.specs.SearchTree.{search_tree}
use Rattle.yew_laws.proofs.Covering.{cover-from_tasks}
use Rattle.yew_laws.proofs.laws.tasks_cancel.Goals as goal

pub returns : goal.returns
returns g c = cover-from_tasks (search_tree g.P.Problem c.args.problem.now)

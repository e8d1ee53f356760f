use Rattle.yew_laws.specs.SearchTree.{search_tree}
use Rattle.yew_laws.proofs.TaskMembers.{among-task, task-among}
use Rattle.yew_laws.proofs.laws.tasks_are_members.Goals as goal

pub returns-clause-among : goal.returns-clause-among
returns-clause-among g c = λ task is.
    let problem = c.args.problem.now in
    task-among (search_tree g.P.Problem problem) (g.P.Problem.ranked problem) c.requires task is.found

pub returns-clause-task : goal.returns-clause-task
returns-clause-task g c = λ task among.
    let problem = c.args.problem.now in
    let is = among-task (search_tree g.P.Problem problem) (g.P.Problem.ranked problem) c.requires task among in
    record { is_sound = is.0; found = is.1 }

use Rattle.yew_laws.specs.SearchTree.{search_tree}
use Rattle.yew_app.proofs.ReportNumbers.{taken-sent, count-numbers}
use Rattle.yew_app.proofs.laws.report_numbers.Goals as goal

pub returns-clause-tasks : goal.returns-clause-tasks
returns-clause-tasks g c = λ gap workers skeleton. taken-sent (search_tree g.P.Problem c.args.problem.now) gap skeleton workers

pub returns-clause-count : goal.returns-clause-count
returns-clause-count g c = λ gap workers skeleton. count-numbers (search_tree g.P.Problem c.args.problem.now) gap skeleton workers

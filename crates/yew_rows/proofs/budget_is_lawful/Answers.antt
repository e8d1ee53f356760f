use Rattle.yew_rows.proofs.BudgetLog.{budget_log-lawful}
use Rattle.yew_rows.proofs.budget_is_lawful.Goals as goal

pub returns : goal.returns
returns c = budget_log-lawful

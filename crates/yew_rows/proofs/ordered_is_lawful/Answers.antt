use Rattle.yew_rows.proofs.OrderedLog.{ordered_log-lawful}
use Rattle.yew_rows.proofs.ordered_is_lawful.Goals as goal

pub returns : goal.returns
returns c = ordered_log-lawful

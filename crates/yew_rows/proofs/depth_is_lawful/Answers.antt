use Rattle.yew_rows.proofs.DepthLog.{depth_log-lawful}
use Rattle.yew_rows.proofs.RestLog.{rest_log-lawful}
use Rattle.yew_rows.proofs.depth_is_lawful.Goals as goal

pub returns : goal.returns
returns c = record { whole = depth_log-lawful; rest = rest_log-lawful }

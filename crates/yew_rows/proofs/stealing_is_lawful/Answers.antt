use Rattle.yew_rows.proofs.StealLogs.{giving_log-lawful, asking_log-lawful}
use Rattle.yew_rows.proofs.StealSearch.{steal_logs-search}
use Rattle.yew_rows.proofs.stealing_is_lawful.Goals as goal

pub returns : goal.returns
returns c = record { giving = giving_log-lawful; asking = asking_log-lawful; together = steal_logs-search }

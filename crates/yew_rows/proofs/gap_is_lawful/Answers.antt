use Rattle.yew_rows.proofs.GapLog.{gap_log-lawful, gap_log-sequential}
use Rattle.yew_rows.proofs.Refused.{gap-refused}
use Rattle.yew_rows.proofs.gap_is_lawful.Goals as goal

pub returns : goal.returns
returns c = record { lawful = gap_log-lawful; computed = gap_log-sequential; no_gap = gap-refused }

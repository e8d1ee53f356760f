use Rattle.yew_rows.proofs.SequentialLog.{sequential_log-lawful, sequential_log-sequential}
use Rattle.yew_rows.proofs.sequential_is_lawful.Goals as goal

pub returns : goal.returns
returns c = record { lawful = sequential_log-lawful; computed = sequential_log-sequential }

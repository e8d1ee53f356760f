-- A line that is no entry ends the log.
use Rattle.std.proofs.Common.{[], length}
use Rattle.yew_log.specs.Entries.{entry_notes}
use Rattle.yew_check.proofs.LineRuns.{log-ends}
use Rattle.yew_check.proofs.reading.read_log.Goals as goal

pub returns-in-None : goal.returns-in-None
returns-in-None c =
    let none = rw c.in-None.is at c.in_ok-entry.ensures in
    log-ends (λ t. t.now) c.args.lines.now c.loop-text.text-index (record { ref_ptr = (0, 0); now = [] }) (entry_notes c.loop-text.log.items) (length c.loop-text.log.items) c.loop-text-test.true c.loop-text.invariant.entries c.loop-text.invariant.count c.loop-text.invariant.within none

-- The parts of the reader make up the whole text, or its first offence.
use Rattle.std.proofs.Common.{map, sym, subst}
use Rattle.yew_log.specs.Entries.{entry_notes}
use Rattle.yew_check.specs.Audits.{IsAudit}
use Rattle.yew_check.proofs.AuditRuns.{text-audit, text-offence}
use Rattle.yew_check.proofs.reading.read_lines.Goals as goal

pub returns-in-Some-fault_at-clause-fault : goal.returns-in-Some-fault_at-clause-fault
returns-in-Some-fault_at-clause-fault c = λ bytes same end.
    let h = rw c.in-Some.is at c.in-Ok.ensures in
    text-offence (λ t. t.now) c.args.lines.now bytes c.in-Some.head.bytes.items (map (λ log. entry_notes log.items) c.in-Ok-read_logs.read.logs.items) c.in-Some.head.lines c.in-Ok-read_logs.read.lines same h c.in-Ok-read_logs.ensures
    c.args.end c.in-Some-fault_at.fault.kind c.in-Some-fault_at.fault.line end c.in-Some-fault_at.ensures

pub returns-clause-audit : goal.returns-clause-audit
returns-clause-audit c = λ bytes same.
    let h = rw c.in-Some.is at c.in-Ok.ensures in
    subst (λ file. IsAudit bytes file.head file.logs) (sym c.new.ensures)
    (text-audit (λ t. t.now) c.args.lines.now bytes c.in-Some.head.bytes.items (map (λ log. entry_notes log.items) c.in-Ok-read_logs.read.logs.items) c.in-Some.head.lines c.in-Ok-read_logs.read.lines same h c.in-Ok-read_logs.ensures c.in_default-fault_at.ensures)

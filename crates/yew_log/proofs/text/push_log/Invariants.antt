use Rattle.std.proofs.Common.{◌≡◌, ◌++◌, take}
use Rattle.yew_log.specs.AuditText.{worker_text}
use Rattle.yew_log.specs.Entries.{entry_notes}
use Rattle.yew_log.proofs.text.push_log.Given as goal

-- the lines of the first entries are there
abbrev pub invariant-loop-entry : goal.invariant-loop-entry
invariant-loop-entry l =
    l.out.items ≡ l.fn.out.items ++ worker_text l.worker (entry_notes (take l.entry-index l.entry-items))

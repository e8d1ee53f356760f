use Rattle.std.proofs.Common.{◌≡◌, ◌++◌, take}
use Rattle.yew_log.specs.Entries.{entry_notes}
use Rattle.yew_check.specs.Marks.{marks, all_seen}
use Rattle.yew_check.proofs.marks.push_marks.Given as goal

-- the visits and the cuts of the first entries are there
abbrev pub invariant-loop-entry : goal.invariant-loop-entry
invariant-loop-entry l = all_seen l.found.items ≡ all_seen l.fn.found.items ++ marks (entry_notes (take l.entry-index l.log))

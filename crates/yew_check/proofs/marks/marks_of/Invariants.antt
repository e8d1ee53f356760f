use Rattle.std.proofs.Common.{◌≡◌, take, map}
use Rattle.yew_log.specs.Entries.{entry_notes}
use Rattle.yew_log.specs.WholeSearch.{joined}
use Rattle.yew_check.specs.Marks.{marks, all_seen}
use Rattle.yew_check.proofs.marks.marks_of.Given as goal

-- the visits and the cuts of the first logs are there
abbrev pub invariant-loop-log : goal.invariant-loop-log
invariant-loop-log l = all_seen l.found.items ≡ marks (joined (map (λ log. entry_notes log.items) (take l.log-index l.logs)))

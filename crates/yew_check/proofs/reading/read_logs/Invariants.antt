use Rattle.std.proofs.Common.{◌≡◌, ◌≤◌, ◌<◌, ◌++◌, drop, map, length}
use Rattle.std.specs.List.{AllByRecursion}
use Rattle.yew_log.specs.Entries.{entry_notes}
use Rattle.yew_check.specs.Audits.{logs_lines}
use Rattle.yew_check.specs.Entries.{IsWithin}
use Rattle.yew_check.specs.Reading.{texts, StopsLog}
use Rattle.yew_check.proofs.reading.read_logs.Given as goal

-- the lines so far are those of the logs so far
abbrev pub invariant-loop-number : goal.invariant-loop-number
invariant-loop-number l = record {
  lines_are : texts l.lines ≡ logs_lines 1 (map (λ log. entry_notes log.items) l.logs.items) ++ drop l.read (texts l.lines);
  count : length l.logs.items ≡ l.number;
  read : l.read ≤ length l.lines;
  within : AllByRecursion (λ log. AllByRecursion IsWithin log) (map (λ log. entry_notes log.items) l.logs.items);
  stops : 0 < l.number → StopsLog (drop l.read (texts l.lines));
}

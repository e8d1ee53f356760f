use Rattle.std.proofs.Common.{◌≡◌, take, map, length}
use Rattle.std.specs.List.{AllByRecursion}
use Rattle.yew_log.specs.Entries.{entry_notes}
use Rattle.yew_check.specs.Entries.{IsWithin, note_text}
use Rattle.yew_check.specs.Reading.{texts}
use Rattle.yew_check.proofs.reading.read_log.Given as goal

-- the lines so far are those of the entries so far
abbrev pub invariant-loop-text : goal.invariant-loop-text
invariant-loop-text l = record {
  entries : texts (take l.text-index l.lines) ≡ map note_text (entry_notes l.log.items);
  count : length l.log.items ≡ l.text-index;
  within : AllByRecursion IsWithin (entry_notes l.log.items);
}

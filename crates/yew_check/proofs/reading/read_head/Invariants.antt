use Rattle.std.proofs.Common.{◌≡◌, take}
use Rattle.std.specs.List.{flat_map}
use Rattle.yew_lines.specs.Spelling.{line}
use Rattle.yew_check.specs.Audits.{HasNoAudit}
use Rattle.yew_check.specs.Reading.{texts}
use Rattle.yew_check.proofs.reading.read_head.Given as goal

-- no audit begins in the lines so far, and their bytes are there
abbrev pub invariant-loop-place : goal.invariant-loop-place
invariant-loop-place l = record {
  no_audit : HasNoAudit (texts (take l.place l.lines));
  bytes : l.bytes.items ≡ flat_map line (texts (take l.place l.lines));
}

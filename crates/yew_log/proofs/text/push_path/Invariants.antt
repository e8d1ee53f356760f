use Rattle.std.proofs.Common.{◌≡◌, ◌++◌, take}
use Rattle.std.specs.Prelude.{flat_map}
use Rattle.yew_log.specs.AuditText.{step_text}
use Rattle.yew_log.proofs.text.push_path.Given as goal

-- the first numbers are there
abbrev pub invariant-loop-number : goal.invariant-loop-number
invariant-loop-number l = l.out.items ≡ l.fn.out.items ++ flat_map step_text (take l.number-index l.numbers)

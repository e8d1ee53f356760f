use Rattle.std.proofs.Common.{◌≡◌, take}
use Rattle.yew_check.specs.Marks.{all_seen, worths}
use Rattle.yew_check.proofs.causes.sorted_worths.Given as goal

-- the worths of the first visits are there
abbrev pub invariant-loop-mark : goal.invariant-loop-mark
invariant-loop-mark l = l.found.items ≡ worths (all_seen (take l.mark-index l.marks))

use Rattle.std.proofs.Common.{take}
use Rattle.std.specs.List.{AllByRecursion}
use Rattle.yew_check.specs.Marks.{all_seen, worths, IsCaused}
use Rattle.yew_check.proofs.causes.have_causes.Given as goal

-- the first ones have their causes
abbrev pub invariant-loop-mark : goal.invariant-loop-mark
invariant-loop-mark l = AllByRecursion (IsCaused l.gap (worths (all_seen l.marks))) (all_seen (take l.mark-index l.marks))

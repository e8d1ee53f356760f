use Rattle.std.proofs.Common.{◌≡◌, ◌++◌, drop}
use Rattle.yew_semi.specs.CountText.{count_lines}
use Rattle.yew_semi.proofs.text.count_text.Given as goal

-- the lines so far, and those that are left
abbrev pub invariant-loop-genus : goal.invariant-loop-genus
invariant-loop-genus l = l.text.items ++ count_lines l.genus (drop l.genus l.sum) ≡ count_lines 0 l.sum

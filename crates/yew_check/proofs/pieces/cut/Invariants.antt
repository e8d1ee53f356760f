use Rattle.std.proofs.Common.{◌≢◌, take}
use Rattle.std.specs.List.{AllByRecursion}
use Rattle.yew_check.proofs.pieces.cut.Given as goal

-- the byte is none of the first ones
abbrev pub invariant-loop-place : goal.invariant-loop-place
invariant-loop-place l = AllByRecursion (λ b. b ≢ l.byte) (take l.place l.text)

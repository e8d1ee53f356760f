-- The white space so far was passed over.
use Rattle.std.proofs.Common.{◌-◌, length}
use Rattle.yew_text.specs.Position.{position_in}
use Rattle.yew_text.proofs.Skipping.{Skipping}
use Rattle.yew_text.proofs.scan.skip_white.Given as goal

abbrev pub invariant-loop-place : goal.invariant-loop-place
invariant-loop-place l = Skipping (position_in l.bytes l.fn.place l.fn.line) (position_in l.bytes l.place l.line)

abbrev pub decreases-loop-place : goal.decreases-loop-place
decreases-loop-place l = length l.bytes - l.place

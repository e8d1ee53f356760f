use Rattle.std.proofs.Common.{◌≡◌, false, take}
use Rattle.yew_laws.specs.Sets.{contains}
use Rattle.yew_span.proofs.spanned.is_among.Given as goal

abbrev pub invariant-loop-place : goal.invariant-loop-place
invariant-loop-place l = contains (take l.place l.listed) l.city ≡ false

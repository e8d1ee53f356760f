use Rattle.std.proofs.Common.{◌≡◌, take}
use Rattle.yew_tsp.specs.Routes.{way_length}
use Rattle.yew_span.proofs.spanned.length_so_far.Given as goal

abbrev pub invariant-loop-place : goal.invariant-loop-place
invariant-loop-place l = l.total ≡ way_length l.tours (take l.place l.listed)

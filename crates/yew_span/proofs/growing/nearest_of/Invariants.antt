use Rattle.std.proofs.Common.{drop}
use Rattle.yew_span.specs.Growth.{nearest}
use Rattle.yew_span.specs.Outsides.{IsNearest}
use Rattle.yew_span.proofs.growing.nearest_of.Given as goal

abbrev pub invariant-loop-place : goal.invariant-loop-place
invariant-loop-place l = IsNearest l.others (nearest l.best (drop l.place l.others))

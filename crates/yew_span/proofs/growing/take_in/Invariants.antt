use Rattle.yew_span.proofs.Taking.{IsMoved}
use Rattle.yew_span.proofs.growing.take_in.Given as goal

abbrev pub invariant-loop-place : goal.invariant-loop-place
invariant-loop-place l = IsMoved l.tours l.taken l.initial.others l.others l.kept l.place

use Rattle.yew_tsp.proofs.Written.{AreSet}
use Rattle.yew_tsp.proofs.nodes.TourNode.written.Given as goal

abbrev pub invariant-loop-place : goal.invariant-loop-place
invariant-loop-place l = AreSet l.self l.place l.cities

abbrev pub invariant-loop-place-2 : goal.invariant-loop-place-2
invariant-loop-place-2 l = AreSet l.self l.place l.cities

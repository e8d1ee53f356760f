use Rattle.yew_lad.proofs.PlaceLaws.{Keeps}
use Rattle.yew_lad.proofs.subgraph.keep_images.Given as goal

abbrev pub invariant-loop-left : goal.invariant-loop-left
invariant-loop-left l = Keeps l.table l.node l.number l.places l.word l.left l.kept

abbrev pub decreases-loop-left : goal.decreases-loop-left
decreases-loop-left l = l.left

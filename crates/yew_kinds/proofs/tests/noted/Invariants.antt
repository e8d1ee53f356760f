use Rattle.yew_kinds.specs.DepthCounts.{HasCounts}
use Rattle.yew_kinds.proofs.tests.noted.Given as goal

abbrev pub invariant-loop-depth : goal.invariant-loop-depth
invariant-loop-depth l = HasCounts l.tally.depths l.sum

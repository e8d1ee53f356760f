use Rattle.std.proofs.Common.{length}
use Rattle.yew_crew.proofs.Gathering.{IsGathering}
use Rattle.yew_crew.proofs.hands.gather.Given as goal

abbrev pub invariant-loop-hand : goal.invariant-loop-hand
invariant-loop-hand g l = IsGathering (g.T.Tally.fits l.tally) (g.T.Tally.join l.tally) (g.T.Tally.none l.tally) l.fn.hands.items l.hands.items l.all

abbrev pub decreases-loop-hand : goal.decreases-loop-hand
decreases-loop-hand g l = length l.hands.items

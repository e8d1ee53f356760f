use Rattle.yew_crew.proofs.Gathering.{gathering-begins, gathering-more}
use Rattle.yew_crew.proofs.hands.gather.Goals as goal

pub loop-hand-init : goal.loop-hand-init
loop-hand-init g c = gathering-begins _ _ _ (g.T.Tally.monoid c.args.tally.now) _ _ _ c.in-Some.ensures.items c.requires.fits

pub loop-hand-preserved : goal.loop-hand-preserved
loop-hand-preserved g c = gathering-more _ _ _ (g.T.Tally.monoid c.args.tally.now) _ _ _ _ _ _ c.loop-hand.invariant c.in-Some-pop.ensures.items c.put_before-all.ensures.sum c.put_before-all.ensures.others c.put_before-all.ensures.first c.put_before-all.ensures.empty

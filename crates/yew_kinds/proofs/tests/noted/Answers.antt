use Rattle.std.proofs.Common.{subst, sym}
use Rattle.yew_kinds.specs.DepthCounts.{HasCounts, one_at}
use Rattle.yew_kinds.specs.DepthLaws.{counts-tally, one_at-fits}
use Rattle.yew_kinds.proofs.tests.noted.Goals as goal

pub loop-depth-init : goal.loop-depth-init
loop-depth-init c =
    let depths = c.args.tally.now.depths in
    subst (HasCounts depths) (sym c.in_ok-sum.ensures) (counts-tally depths).none_fits

pub loop-depth-preserved : goal.loop-depth-preserved
loop-depth-preserved c =
    let depths = c.args.tally.now.depths in
    subst (HasCounts depths) (sym c.note.ensures)
    ((counts-tally depths).join_fits c.loop-depth.sum (one_at depths _) c.loop-depth.invariant (one_at-fits depths _))

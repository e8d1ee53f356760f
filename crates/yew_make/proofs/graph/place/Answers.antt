use Rattle.std.proofs.Common.{arith}
use Rattle.yew_make.proofs.Triangles.{pairs_before-is, pair_place-lt}
use Rattle.yew_make.proofs.graph.place.Goals as goal

pub returns-clause-place : goal.returns-clause-place
returns-clause-place c = let h = pairs_before-is c.args.size c.args.low (omega arith) in omega (arith, h)

pub returns-clause-kept : goal.returns-clause-kept
returns-clause-kept c =
    let h = pairs_before-is c.args.size c.args.low (omega arith) in
    let kept = pair_place-lt c.args.size c.args.low c.args.high c.requires.order c.requires.within in
    omega (arith, h, kept)

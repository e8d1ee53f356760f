use Rattle.std.proofs.Common.{◌-◌, get_or, arith}
use Rattle.yew_tsp.specs.BoundLaws.{weight-small}
use Rattle.yew_span.proofs.Placing.{way-more, way-front}
use Rattle.yew_span.proofs.spanned.length_so_far.Goals as goal

pub overflow_add-total : goal.overflow_add-total
overflow_add-total c =
    let is = c.loop-place.invariant in
    let step = c.weight-total.ensures in
    let few = c.requires.few in
    let small = way-front c.args.tours.now c.requires.limits c.args.listed.now c.loop-place.place (omega arith) few in
    let one = weight-small c.args.tours.now c.requires.limits (get_or c.args.listed.now (c.loop-place.place - 1) 0) (get_or c.args.listed.now c.loop-place.place 0) in
    omega (arith, is, step, small, one)

pub loop-place-preserved : goal.loop-place-preserved
loop-place-preserved c =
    let is = c.loop-place.invariant in
    let step = c.weight-total.ensures in
    let some = c.loop-place.auto.place in
    let more = way-more c.args.tours.now c.args.listed.now c.loop-place.place (omega arith) c.loop-place-test.true in
    omega (arith, is, step, more)

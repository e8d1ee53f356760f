use Rattle.std.proofs.Common.{◌≢◌, ◌<◌, length, arith}
use Rattle.yew_pool.proofs.Order.{order_at, order_swap, swaps_less_as}
use Rattle.yew_pool.proofs.closing.order.Goals as goal

pub loop-at-smaller : goal.loop-at-smaller
loop-at-smaller g c =
    let x = c.index.result.now in let y = c.index-else-place-at.result.now in
    let now = c.loop-at.passes.items in let count = length c.args.pool.now.deques in
    let below : c.loop-at.at < length now = omega (arith, c.loop-at.passes.ok.0) in
    let at_x = order_at c.args.pool.now c.loop-at.at c.loop-at.at c.place-place.result _ now x c.loop-at.invariant.0 below c.index.ensures
    c.place-place.ensures in
    let at_y = order_at c.args.pool.now c.loop-at.at c.place-place.result c.place.result _ now y c.loop-at.invariant.0 at_x.1 c.index-else-place-at.ensures
    c.place.ensures in
    let apart : y.number ≢ x.number = λ e. c.if-place.false (let p = at_x.0 in let q = at_y.0 in omega (arith, e, p, q)) in
    let less = swaps_less_as count c.loop-at.at c.place-place.result now c.swap.new.self.items x y below at_x.1
    (λ e. c.if-place-at.false (omega (arith, e))) c.index.ensures c.index-else-place-at.ensures at_x.0 apart c.swap.ensures.items in
    omega (arith, less)

pub loop-at-preserved : goal.loop-at-preserved
loop-at-preserved g c =
    let x = c.index.result.now in let y = c.index-else-place-at.result.now in
    let now = c.loop-at.passes.items in let count = length c.args.pool.now.deques in
    let below : c.loop-at.at < length now = omega (arith, c.loop-at.passes.ok.0) in
    let at_x = order_at c.args.pool.now c.loop-at.at c.loop-at.at c.place-place.result _ now x c.loop-at.invariant.0 below c.index.ensures
    c.place-place.ensures in
    let at_y = order_at c.args.pool.now c.loop-at.at c.place-place.result c.place.result _ now y c.loop-at.invariant.0 at_x.1 c.index-else-place-at.ensures
    c.place.ensures in
    let apart : y.number ≢ x.number = λ e. c.if-place.false (let p = at_x.0 in let q = at_y.0 in omega (arith, e, p, q)) in
    let next = order_swap c.args.pool.now count c.loop-at.at c.place-place.result _ now c.swap.new.self.items x y c.loop-at.invariant.0 below at_x.1
    (λ e. c.if-place-at.false (omega (arith, e))) c.index.ensures c.index-else-place-at.ensures
    at_x.0 apart c.swap.ensures.items in (
      next,
      (let l = next.long in let m = c.loop-at.invariant.0.long in omega (arith, l, m, below)),
    )

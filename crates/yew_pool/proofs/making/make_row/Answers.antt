use Rattle.std.proofs.Common.{◌<◌, length, refl, arith}
use Rattle.yew_pool.proofs.Starting.{lays_more_as}
use Rattle.yew_pool.proofs.making.make_row.Goals as goal

pub loop-at-preserved : goal.loop-at-preserved
loop-at-preserved g c =
    let below : c.loop-at.at < length c.args.owns.now.items = omega (arith, c.args.owns.now.ok.0) in
    lays_more_as _ _ c.args.number c.loop-at.at _ _ c.loop-at.owns.items c.loop-at.row.items _ c.index_mut.result.now c.make_place.new.own
    c.in_ok-place.place c.loop-at.invariant below c.index_mut.ensures.value refl c.requires.within
    c.in_ok-place.ensures.own c.in_ok-place.ensures.idle c.in_ok-place.ensures.place c.in_ok-push.ensures.items

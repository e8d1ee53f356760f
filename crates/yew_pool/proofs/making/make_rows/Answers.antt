use Rattle.std.proofs.Common.{◌≡◌, length, sym, refl, ap, arith}
use Rattle.std.proofs.lemmas.List.{length-map}
use Rattle.yew_pool.specs.Places.{PlaceView}
use Rattle.yew_pool.specs.Making.{whole_among}
use Rattle.yew_pool.proofs.Merging.{popped_rows}
use Rattle.yew_pool.proofs.Starting.{rows_more_as}
use Rattle.yew_pool.proofs.Seating.{rows_end}
use Rattle.yew_pool.proofs.making.make_rows.Goals as goal

pub loop-number-preserved : goal.loop-number-preserved
loop-number-preserved g c =
    let long = length-map c.args.owns.now.items (λ (p : PlaceView _ _). p.deque) in
    rows_more_as _ _ c.loop-number.number _ c.loop-number.owns.items c.make_row.new.owns.items c.in_ok-make_row.field-0.items _ _ c.loop-number.invariant
    c.in_ok-make_row.ensures.owners c.in_ok-make_row.ensures.row
    c.in_ok-make_row.ensures.long (ap whole_among (sym long))
    (popped_rows (λ row. row.items) c.push.new.self.items c.loop-number.rows.items c.in_ok-make_row.field-0 c.in_ok-push.ensures.items)

pub returns-clause-ready : goal.returns-clause-ready
returns-clause-ready g c =
    let long = length-map c.args.owns.now.items (λ (p : PlaceView _ _). p.deque) in
    let end : c.loop-number.number ≡ length c.args.owns.now.items = omega (arith, c.args.owns.now.ok.0) in
    rows_end _ _ c.loop-number.number (length c.args.owns.now.items) _ c.loop-number.owns.items _ c.loop-number.invariant refl (sym long) end

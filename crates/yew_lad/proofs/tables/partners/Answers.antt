use Rattle.std.proofs.Common.{length}
use Rattle.yew_lad.specs.Tables.{vertex_in, are_joined, is_partner}
use Rattle.yew_lad.proofs.TableLaws.{filled-none, filled-put, passes}
use Rattle.yew_lad.proofs.tables.partners.Goals as goal

pub loop-place-init : goal.loop-place-init
loop-place-init c = filled-none (length c.args.order.now) 1 (is_partner c.args.graph.now c.args.order.now) c.in_ok-table.table c.in_ok-table.ensures

pub loop-earlier-preserved : goal.loop-earlier-preserved
loop-earlier-preserved c =
    let order = c.args.order.now in
    let place = c.loop-place.place in
    let earlier = c.loop-earlier.earlier in
    filled-put (length order) 1 (is_partner c.args.graph.now order) place earlier c.loop-earlier.table c.loop-earlier.invariant c.are_joined.result c.put.new.self
    (passes earlier place c.are_joined.result (are_joined c.args.graph.now (vertex_in order earlier) (vertex_in order place)) c.loop-earlier-test.true c.are_joined.ensures)
    c.put.ensures

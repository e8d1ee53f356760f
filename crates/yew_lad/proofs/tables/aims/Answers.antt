use Rattle.std.proofs.Common.{length}
use Rattle.yew_lad.specs.Tables.{vertex_in, is_one_way, is_aim}
use Rattle.yew_lad.proofs.TableLaws.{filled-none, filled-put, passes}
use Rattle.yew_lad.proofs.tables.aims.Goals as goal

pub loop-place-init : goal.loop-place-init
loop-place-init c = filled-none (length c.args.order.now) 1 (is_aim c.args.graph.now c.args.order.now) c.in_ok-table.table c.in_ok-table.ensures

pub loop-earlier-preserved : goal.loop-earlier-preserved
loop-earlier-preserved c =
    let order = c.args.order.now in
    let place = c.loop-place.place in
    let earlier = c.loop-earlier.earlier in
    filled-put (length order) 1 (is_aim c.args.graph.now order) place earlier c.loop-earlier.table c.loop-earlier.invariant c.is_one_way.result c.put.new.self
    (passes earlier place c.is_one_way.result (is_one_way c.args.graph.now (vertex_in order place) (vertex_in order earlier)) c.loop-earlier-test.true c.is_one_way.ensures)
    c.put.ensures

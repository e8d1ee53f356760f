use Rattle.std.proofs.Common.{slice_index_or, length}
use Rattle.yew_lad.specs.Nodes.{has_room}
use Rattle.yew_lad.specs.Tables.{blank, has_room_in}
use Rattle.yew_lad.proofs.TableLaws.{filled-none, filled-put, passes}
use Rattle.yew_lad.proofs.tables.rooms.Goals as goal

pub loop-place-init : goal.loop-place-init
loop-place-init c = filled-none (length c.args.order.now) c.args.width (has_room_in c.args.order.now c.args.images.now) c.in_ok-table.table c.in_ok-table.ensures

pub loop-t-preserved : goal.loop-t-preserved
loop-t-preserved c = filled-put (length c.args.order.now) c.args.width (has_room_in c.args.order.now c.args.images.now) c.loop-place.place c.loop-t.t c.loop-t.table c.loop-t.invariant c.has_room.result c.put.new.self (passes c.loop-t.t (length c.args.images.now) c.has_room.result (has_room (slice_index_or c.args.order.now c.loop-place.place blank) (slice_index_or c.args.images.now c.loop-t.t blank)) c.loop-t-test.true c.has_room.ensures) c.put.ensures

use Rattle.std.proofs.Common.{length}
use Rattle.yew_lad.specs.Tables.{IsFilled, has_room_in}
use Rattle.yew_lad.proofs.tables.rooms.Given as goal

abbrev pub invariant-loop-place : goal.invariant-loop-place
invariant-loop-place l = IsFilled (length l.order) l.width (has_room_in l.order l.images) l.place 0 l.table

abbrev pub invariant-loop-t : goal.invariant-loop-t
invariant-loop-t l = IsFilled (length l.order) l.width (has_room_in l.order l.images) l.place l.t l.table

use Rattle.std.proofs.Common.{◌≤◌, flat_map, take}
use Rattle.yew_io.specs.Sink.{Appends}
use Rattle.yew_app.specs.Reasons.{piece_text}
use Rattle.yew_app.proofs.refusal.write_fault_line.Given as goal

-- the first pieces are written
abbrev pub invariant-loop-piece : goal.invariant-loop-piece
invariant-loop-piece g l =
    let written = g.E.Sink.written in
    let faults = g.E.Sink.faults in
    record {
      appended : Appends (written l.fn.sink) (flat_map piece_text (take l.piece-index l.piece-items)) (written l.sink);
      counted : faults l.fn.sink ≤ faults l.sink;
    }

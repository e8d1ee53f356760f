use Rattle.std.proofs.Common.{subst, arith}
use Rattle.yew_io.specs.Sink.{Appends}
use Rattle.yew_io.proofs.Pieces.{append_more, next_piece, piece_within}
use Rattle.yew_io.proofs.writing.write_whole.Goals as goal

pub loop-taken-preserved : goal.loop-taken-preserved
loop-taken-preserved g c =
    let before = c.loop-taken.invariant in
    let said = c.in_ok-taken.ensures in
    let more = append_more _ _ _ _ _ before.so_far said.taken in
    record {
      within = piece_within c.loop-taken.taken c.in_ok-taken.field-0 c.args.bytes.now before.within said.within;
      so_far = subst (λ bytes. Appends (g.K.Sink.written c.args.sink.now) bytes (g.K.Sink.written c.write.new.self)) (next_piece c.loop-taken.taken c.in_ok-taken.field-0 c.args.bytes.now) more;
      counted = omega (arith, before.counted, said.counted);
    }

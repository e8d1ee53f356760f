use Rattle.std.proofs.Common.{◌<◌, ℕ, List, [], length, sym, subst, ◌∙◌, arith}
use Rattle.yew_app.specs.declared.refusal.Piece.TheVariants.{Text}
use Rattle.yew_app.specs.Reasons.{piece_text}
use Rattle.yew_io.specs.Sink.{AppendsPrefix}
use Rattle.yew_io.proofs.Pieces.{append_none}
use Rattle.yew_app.proofs.Writing.{prefix_more, pieces_at}
use Rattle.yew_app.proofs.refusal.write_fault_line.Goals as goal

pub loop-piece-init : goal.loop-piece-init
loop-piece-init g c = record {
  appended = append_none (g.E.Sink.written c.args.sink.now);
  counted = omega arith;
}

pub returns-in-Err-clause-prefix : goal.returns-in-Err-clause-prefix
returns-in-Err-clause-prefix g c =
    let written = g.E.Sink.written in
    let pieces = c.pieces_of-pieces.result in
    let within : c.loop-piece.piece-index < length pieces = omega (arith, c.pieces_of-pieces.ensures.count) in
    let parts = pieces_at piece_text pieces c.loop-piece.piece-index (Text (record { ref_ptr = (0, 0); now = [] })) within in
    subst (λ (text : List ℕ). AppendsPrefix (written c.args.sink.now) text (written c.write_piece.new.sink)) (sym parts ∙ c.pieces_of-pieces.ensures.text)
    (prefix_more (written c.args.sink.now) (written c.loop-piece.sink) (written c.write_piece.new.sink) _ _ _ c.loop-piece.invariant.appended c.in-Err.ensures.prefix)

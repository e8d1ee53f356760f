use Rattle.yew_text.specs.Position.{SameText}
use Rattle.yew_lad.specs.Reading.{VerticesRead, IsSized}
use Rattle.yew_lad.proofs.reading.read_vertices.Given as goal

abbrev pub invariant-loop-u : goal.invariant-loop-u
invariant-loop-u l = record {
  read : VerticesRead l.n l.u l.fn.cursor l.cursor l.arcs;
  sized : IsSized l.n l.most l.arcs;
  same : SameText l.fn.cursor l.cursor;
}

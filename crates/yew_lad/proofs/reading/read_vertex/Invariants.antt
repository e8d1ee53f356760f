use Rattle.yew_text.specs.Position.{SameText}
use Rattle.yew_lad.specs.Reading.{SuccessorsRead}
use Rattle.yew_lad.proofs.reading.read_vertex.Given as goal

abbrev pub invariant-loop-k : goal.invariant-loop-k
invariant-loop-k l = record {
  read : SuccessorsRead l.n l.u l.count l.k l.fn.cursor l.fn.arcs l.cursor l.arcs;
  same : SameText l.fn.cursor l.cursor;
}

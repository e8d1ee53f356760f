use Rattle.yew_text.specs.Position.{SameText}
use Rattle.yew_knap.specs.Reading.{ItemsRead}
use Rattle.yew_knap.proofs.reading.read_items.Given as goal

abbrev pub invariant-loop-k : goal.invariant-loop-k
invariant-loop-k l = record {
  read : ItemsRead l.form l.fn.cursor l.n l.capacity l.k l.kept.items.items l.kept.total l.kept.past l.cursor;
  same : SameText l.fn.cursor l.cursor;
}

use Rattle.yew_text.specs.Position.{SameText}
use Rattle.yew_tsp.specs.Reading.{SomeNumbers}
use Rattle.yew_tsp.proofs.reading.read_numbers.Given as goal

abbrev pub invariant-loop-k : goal.invariant-loop-k
invariant-loop-k l = record {
  read : SomeNumbers l.fn.cursor l.fn.said l._k l.numbers.items l.past l.cursor;
  same : SameText l.fn.cursor l.cursor;
}

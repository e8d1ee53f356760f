use Rattle.yew_text.specs.Position.{SameText}
use Rattle.yew_flow.specs.Reading.{SomeTimes}
use Rattle.yew_flow.proofs.reading.read_times.Given as goal

abbrev pub invariant-loop-k : goal.invariant-loop-k
invariant-loop-k l = record {
  read : SomeTimes l.fn.cursor l.jobs l.machines l._k l.times.items l.past l.cursor;
  same : SameText l.fn.cursor l.cursor;
}

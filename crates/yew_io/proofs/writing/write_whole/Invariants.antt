use Rattle.std.proofs.Common.{◌-◌, ◌≤◌, length, take}
use Rattle.yew_io.specs.Sink.{Appends}
use Rattle.yew_io.proofs.writing.write_whole.Given as goal

-- the first bytes were written, as many as were taken
abbrev pub invariant-loop-taken : goal.invariant-loop-taken
invariant-loop-taken g l = record {
  within : l.taken ≤ length l.bytes;
  so_far : Appends (g.K.Sink.written l.initial.sink) (take l.taken l.bytes) (g.K.Sink.written l.sink);
  counted : g.K.Sink.faults l.initial.sink ≤ g.K.Sink.faults l.sink;
}

abbrev pub decreases-loop-taken : goal.decreases-loop-taken
decreases-loop-taken g l = length l.bytes - l.taken

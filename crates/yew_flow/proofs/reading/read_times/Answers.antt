use Rattle.std.proofs.Common.{◌∙◌}
use Rattle.yew_flow.proofs.TimeSteps.{time-fault, time-read}
use Rattle.yew_flow.proofs.reading.read_times.Goals as goal

pub returns-in-Err-clause-read : goal.returns-in-Err-clause-read
returns-in-Err-clause-read c =
    time-fault c.args.jobs c.args.machines c.loop-k._k c.loop-k-test.true c.args.cursor.now c.loop-k.cursor c.loop-k.times.items c.loop-k.past c.loop-k.invariant.read c.number.new.self c.in-Err.fault c.in-Err.ensures.taken

pub loop-k-preserved : goal.loop-k-preserved
loop-k-preserved c = record {
  read = time-read c.args.jobs c.args.machines c.loop-k._k c.loop-k-test.true c.args.cursor.now c.loop-k.cursor c.loop-k.times.items c.loop-k.past c.loop-k.invariant.read c.number.new.self c.in-Ok.number c.in-Ok.ensures.taken c.in-Ok.ensures.same c.keep_time.new.times.items c.in-Ok-keep_time.past c.in-Ok-keep_time.ensures;
  same = c.loop-k.invariant.same ∙ c.in-Ok.ensures.same;
}

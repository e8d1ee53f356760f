use Rattle.std.proofs.Common.{◌∙◌, ◌<◌, subst}
use Rattle.yew_tsp.proofs.NumberSteps.{number-fault, number-read}
use Rattle.yew_tsp.proofs.reading.read_numbers.Goals as goal

pub returns-in-Err-clause-read : goal.returns-in-Err-clause-read
returns-in-Err-clause-read c =
    number-fault c.args.said c.loop-k._k (subst (λ n. c.loop-k._k < n) c.count-k-end.ensures c.loop-k-test.true) c.args.cursor.now c.loop-k.cursor c.loop-k.numbers.items c.loop-k.past c.loop-k.invariant.read c.matrix_number.new.cursor c.in-Err.fault c.in-Err.ensures.taken

pub loop-k-preserved : goal.loop-k-preserved
loop-k-preserved c = record {
  read = number-read c.args.said c.loop-k._k (subst (λ n. c.loop-k._k < n) c.count-k-end.ensures c.loop-k-test.true) c.args.cursor.now c.loop-k.cursor c.loop-k.numbers.items c.loop-k.past c.loop-k.invariant.read c.matrix_number.new.cursor c.in-Ok.number c.in-Ok.ensures.taken c.in-Ok.ensures.same c.keep_number.new.numbers.items c.in-Ok-keep_number.past c.in-Ok-keep_number.ensures;
  same = c.loop-k.invariant.same ∙ c.in-Ok.ensures.same;
}

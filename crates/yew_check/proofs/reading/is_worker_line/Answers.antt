-- The word and the number of a worker's line.
use Rattle.yew_check.proofs.LineRuns.{worker-not, worker-test}
use Rattle.yew_check.proofs.reading.is_worker_line.Goals as goal

pub returns-then-not-is_same : goal.returns-then-not-is_same
returns-then-not-is_same c = worker-not c.args.text.now c.in-Some.word.now c.in-Some.digits.now c.args.number c.in-Some.ensures.0 c.in-Some.ensures.1 c.if-not-is_same.ensures

pub returns-in-Some-number_in : goal.returns-in-Some-number_in
returns-in-Some-number_in c =
    worker-test c.args.text.now c.in-Some.word.now c.in-Some.digits.now c.in-Some-number_in.found c.args.number c.in-Some-number_in.ensures.1 c.in-Some.ensures.0 c.if-not-is_same.ensures c.in-Some-number_in.ensures.0 c.requires

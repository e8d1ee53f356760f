use Rattle.std.proofs.Common.{arith}
use Rattle.yew_knap.proofs.Reciprocals.{upper-le, quotient-upper, quotient-next}
use Rattle.yew_knap.proofs.quotients.quotient.Goals as goal

pub overflow_sub-number : goal.overflow_sub-number
overflow_sub-number c = upper-le c.args.number c.args.weight c.requires.weighs (omega arith) c.args.reciprocal c.requires.reciprocal

pub returns-then-number-least : goal.returns-then-number-least
returns-then-number-least c = quotient-upper c.args.number c.args.weight c.requires.weighs (omega arith) c.args.reciprocal c.requires.reciprocal (omega arith)

pub returns-else-number-least : goal.returns-else-number-least
returns-else-number-least c = quotient-next c.args.number c.args.weight c.requires.weighs (omega arith) c.args.reciprocal c.requires.reciprocal (omega arith)

use Rattle.yew_stack.specs.ToCome.{AllOpen}
use Rattle.yew_rows.proofs.tests.first_children.Given as goal

abbrev pub invariant-loop-level : goal.invariant-loop-level
invariant-loop-level g l = AllOpen g.P.Problem l.problem l.stack

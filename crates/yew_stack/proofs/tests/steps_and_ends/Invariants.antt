use Rattle.yew_stack.specs.ToCome.{AllOpen}
use Rattle.yew_stack.proofs.tests.steps_and_ends.Given as goal

abbrev pub invariant-loop-step : goal.invariant-loop-step
invariant-loop-step g l = AllOpen g.P.Problem l.problem l.descent.levels

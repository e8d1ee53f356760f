use Rattle.yew_stack.specs.ToCome.{AllOpen}
use Rattle.yew_stack.proofs.tests.given_and_ended.Given as goal

abbrev pub invariant-loop-turn : goal.invariant-loop-turn
invariant-loop-turn g l = AllOpen g.P.Problem l.problem l.stack

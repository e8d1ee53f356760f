use Rattle.yew_pool.specs.Trials.{IsPassFor, told_flat}
use Rattle.yew_pool.proofs.tests.follow.Given as goal

abbrev pub invariant-loop-turn : goal.invariant-loop-turn
invariant-loop-turn g l = IsPassFor l.pool (told_flat l.problem.width) l.pass

use Rattle.std.proofs.Common.{◌≡◌}
use Rattle.yew_knap.proofs.Nexts.{StandsAt}
use Rattle.yew_knap.proofs.problem.KnapsackProblem.next.Given as goal

abbrev pub invariant-loop-place : goal.invariant-loop-place
invariant-loop-place l = record { kept : l.kids ≡ l.fn.kids; stands : StandsAt l.self l.fn.kids l.place }

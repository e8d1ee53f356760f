use Rattle.std.proofs.Common.{◌≡◌}
use Rattle.yew_kinds.proofs.JoinedCounts.{partly_joined}
use Rattle.yew_kinds.proofs.depths.Depths.join.Given as goal

-- the counts below k are joined, and the others are as they were
abbrev pub invariant-loop-k : goal.invariant-loop-k
invariant-loop-k l = l.self-inside.counts.items ≡ partly_joined l.k l.initial.self-inside.counts.items l.other

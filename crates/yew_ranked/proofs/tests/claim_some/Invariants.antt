use Rattle.std.proofs.Common.{◌≡◌, length}
use Rattle.yew_ranked.proofs.tests.claim_some.Given as goal

abbrev pub invariant-loop-turn : goal.invariant-loop-turn
invariant-loop-turn l = (l.seat.claims ≡ l.claims) × (l.seat.share ≡ 1) × (length l.seat.claimed ≡ l._turn)

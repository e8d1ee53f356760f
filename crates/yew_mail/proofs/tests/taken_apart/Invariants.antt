use Rattle.std.proofs.Common.{◌≡◌, ◌+◌, length}
use Rattle.std.specs.Prelude.{All}
use Rattle.yew_mail.specs.Players.{IsSeatOf}
use Rattle.yew_mail.specs.Star.{star_members}
use Rattle.yew_mail.proofs.tests.taken_apart.Given as goal

abbrev pub invariant-loop-worker : goal.invariant-loop-worker
invariant-loop-worker l = record {
  workers : All (λ w. IsSeatOf l.mail (star_members l.star.leaves) w.number w.asks w.seat) l.workers.items;
  seats : All (λ seat. (seat.mail ≡ l.mail) × (seat.share ≡ 1)) l.seats.items;
  count : length l.seats.items + length l.workers.items ≡ length l.fn.workers.items;
}

abbrev pub decreases-loop-worker : goal.decreases-loop-worker
decreases-loop-worker l = length l.workers.items

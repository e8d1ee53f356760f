use Rattle.std.proofs.Common.{◌≡◌, length}
use Rattle.std.specs.Prelude.{All}
use Rattle.yew_mail.specs.Players.{IsSeatOf}
use Rattle.yew_mail.specs.Star.{star_members}
use Rattle.yew_mail.proofs.tests.play.Given as goal

abbrev pub invariant-loop-at : goal.invariant-loop-at
invariant-loop-at l = record {
  seats : All (λ w. IsSeatOf l.mail (star_members l.star.leaves) w.number w.asks w.seat) l.workers.items;
  count : length l.workers.items ≡ l.at-end;
  same : length l.workers.items ≡ length l.fn.workers.items;
}

abbrev pub invariant-loop-turn : goal.invariant-loop-turn
invariant-loop-turn l = record {
  seats : All (λ w. IsSeatOf l.mail (star_members l.star.leaves) w.number w.asks w.seat) l.workers.items;
  same : length l.workers.items ≡ length l.fn.workers.items;
}

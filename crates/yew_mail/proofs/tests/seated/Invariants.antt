use Rattle.std.proofs.Common.{◌≡◌, ◌+◌, ◌-◌, length, map}
use Rattle.std.specs.Prelude.{All}
use Rattle.yew_mail.specs.Players.{IsSeatOf}
use Rattle.yew_mail.specs.Star.{star_members}
use Rattle.yew_mail.specs.Seats.{new_seat}
use Rattle.yew_mail.specs.Views.{counted_from}
use Rattle.yew_mail.proofs.tests.seated.Given as goal

abbrev pub invariant-loop-place : goal.invariant-loop-place
invariant-loop-place l = record {
  left : l.seats.items ≡ map (new_seat l.mail (star_members l.star.leaves)) (counted_from (l.place + 1) (l.mail.workers - l.place));
  seats : All (λ w. IsSeatOf l.mail (star_members l.star.leaves) w.number w.asks w.seat) l.workers.items;
  count : length l.workers.items ≡ l.place;
}

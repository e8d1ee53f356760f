use Rattle.std.proofs.Common.{◌≡◌, ◌+◌, ◌-◌, ◌∙◌, ℕ, map, arith, ap}
use Rattle.std.proofs.lemmas.Grind.{common_steps}
use Rattle.yew_mail.specs.Players.{IsSeatOf}
use Rattle.yew_mail.specs.Star.{star_members}
use Rattle.yew_mail.specs.Seats.{new_seat}
use Rattle.yew_mail.specs.Views.{counted_from}
use Rattle.yew_mail.proofs.Players.{next_of, some_there, first_taken, rest_left, all_pushed, one_more, new_is_seat}
use Rattle.yew_mail.proofs.tests.seated.Goals as goal

pub remove-seat-requires : goal.remove-seat-requires
remove-seat-requires c =
    let low = c.loop-place-test.true in let end = c.workers-place-end.ensures in
    let next = next_of _ _ _ _ c.loop-place.invariant.left (omega (arith, low, end)) in
    let some = some_there _ _ _ next in
    grind (arith, common_steps, some)

pub loop-place-preserved : goal.loop-place-preserved
loop-place-preserved c =
    let low = c.loop-place-test.true in let end = c.workers-place-end.ensures in
    let next = next_of _ _ _ _ c.loop-place.invariant.left (omega (arith, low, end)) in
    let fewer : c.args.mail.now.workers - c.loop-place.place - 1 ≡ c.args.mail.now.workers - (c.loop-place.place + 1) = omega arith in
    let seat = first_taken _ _ _ _ next c.remove-seat.ensures.value in
    record {
      left = rest_left _ _ _ _ next c.remove-seat.ensures.items
          ∙ ap (λ (n : ℕ). map (new_seat c.args.mail.now (star_members c.args.star.now.leaves)) (counted_from (c.loop-place.place + 1 + 1) n)) fewer;
      seats = all_pushed c.loop-place.workers.items c.push.new.self.items _
          (λ w. IsSeatOf c.args.mail.now (star_members c.args.star.now.leaves) w.number w.asks w.seat)
          c.in_ok-push.ensures.items c.loop-place.invariant.seats
          (new_is_seat _ _ _ _ seat (omega arith) (omega (arith, low, end)));
      count = one_more _ _ _ _ c.in_ok-push.ensures.items c.loop-place.invariant.count;
    }

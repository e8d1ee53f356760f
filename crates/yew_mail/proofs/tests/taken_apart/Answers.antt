use Rattle.std.proofs.Common.{◌≡◌}
use Rattle.yew_mail.specs.Players.{IsSeatOf}
use Rattle.yew_mail.specs.Star.{star_members}
use Rattle.yew_mail.proofs.Players.{all_popped, all_pushed, one_moved}
use Rattle.yew_mail.proofs.tests.taken_apart.Goals as goal

pub loop-worker-preserved : goal.loop-worker-preserved
loop-worker-preserved c =
    let both = all_popped c.loop-worker.workers.items c.pop.new.self.items c.in-Some.worker
    (λ w. IsSeatOf c.args.mail.now (star_members c.args.star.now.leaves) w.number w.asks w.seat) c.in-Some.ensures.items c.loop-worker.invariant.workers in
    record {
      workers = both.0;
      seats = all_pushed c.loop-worker.seats.items c.push.new.self.items c.in-Some.worker.seat
          (λ seat. (seat.mail ≡ c.args.mail.now) × (seat.share ≡ 1))
          c.in_ok-push.ensures.items c.loop-worker.invariant.seats (both.1.same_mail, both.1.share);
      count = one_moved _ _ c.in-Some.worker _ _ c.in-Some.worker.seat _ c.in-Some.ensures.items c.in_ok-push.ensures.items c.loop-worker.invariant.count;
    }

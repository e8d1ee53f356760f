use Rattle.std.proofs.Common.{◌∙◌, ap, refl}
use Rattle.yew_best.specs.Seats.{SeatView}
use Rattle.yew_crew.specs.OpenSeats.{OpenSeatView}
use Rattle.yew_ranked.specs.ClaimSeats.{ClaimSeatView}
use Rattle.yew_ranked.proofs.starting.split_off.Goals as goal

pub returns-clause-new : goal.returns-clause-new
returns-clause-new g c = record {
  seated = record {
    of_best = ap (λ (s : SeatView). s.best) c.split-best.ensures.new ∙ c.requires.best;
    best_share = ap (λ (s : SeatView). s.share) c.split-best.ensures.new;
    of_claims = ap (λ (s : ClaimSeatView). s.claims) c.split-claims.ensures.new ∙ c.requires.claims;
    claims_share = ap (λ (s : ClaimSeatView). s.share) c.split-claims.ensures.new;
    of_stop = ap (λ (s : OpenSeatView). s.tasks) c.split-stop.ensures.new ∙ c.requires.stop;
    stop_share = ap (λ (s : OpenSeatView). s.share) c.split-stop.ensures.new;
  };
  fresh = record {
    number_is = refl;
    none_offered = ap (λ (s : SeatView). s.offered) c.split-best.ensures.new;
    none_heard = ap (λ (s : SeatView). s.heard) c.split-best.ensures.new;
    none_claimed = ap (λ (s : ClaimSeatView). s.claimed) c.split-claims.ensures.new ∙ c.requires.none_claimed;
    no_stop = ap (λ (s : OpenSeatView). s.stops) c.split-stop.ensures.new;
    holds_none = c.in_ok-hand.ensures.holds;
    sum_is = c.in_ok-hand.ensures.sum;
    log = record { told = c.in_ok-log.ensures.told; totals_are = c.in_ok-log.ensures.totals; number_is = c.in_ok-log.ensures.worker };
  };
  space = c.in_ok-hand.ensures.space;
}

use Rattle.std.proofs.Common.{◌≡◌, ◌∙◌, refl, sym, ap, subst}
use Rattle.yew_best.specs.Seats.{SeatView}
use Rattle.yew_crew.specs.OpenSeats.{OpenSeatView}
use Rattle.yew_laws.specs.SearchTree.{search_tree}
use Rattle.yew_walk.specs.LogViews.{log_view}
use Rattle.yew_ranked.specs.ClaimSeats.{ClaimSeatView}
use Rattle.yew_ranked.proofs.BegunSearch.{frontier-refused}
use Rattle.yew_ranked.proofs.ordered.walk_above.Goals as goal

pub returns-in-Err-clause-fault : goal.returns-in-Err-clause-fault
returns-in-Err-clause-fault g c =
    let log = c.in_ok-log.log in
    let now = c.walk_frontier.new.log in
    frontier-refused (search_tree g.P.Problem c.args.problem.now) c.args.depth c.args.workers _
    (log_view (g.R.Recorder.told log) (g.R.Recorder.totals log) (g.R.Recorder.number log)) (log_view (g.R.Recorder.told now) (g.R.Recorder.totals now) (g.R.Recorder.number now))
    c.in-Err.fault
    (λ worker entries numbers new full. c.frontier_full_is_audit_full.ensures c.args.depth c.args.workers worker entries numbers _ _ new full)
    c.in_ok-log.ensures.told c.in_ok-log.ensures.worker c.requires.workers.0 (λ told. (now, told)) c.in-Err.ensures.fault

pub returns-clause-begun : goal.returns-clause-begun
returns-clause-begun g c =
    let log = c.in_ok-log.log in
    let best_is = c.in_ok-best.ensures.seat in
    let claims_is = c.in_ok-claims.ensures.seat in
    let stop_is = c.in_ok-stop.ensures.seat in
    record {
      tasks = c.in-Ok.ensures.there;
      seated = record {
        of_best = c.walk_frontier.ensures.best ∙ ap (λ (s : SeatView). s.best) best_is;
        best_share = c.walk_frontier.ensures.share ∙ ap (λ (s : SeatView). s.share) best_is;
        of_claims = ap (λ (s : ClaimSeatView). s.claims) claims_is;
        claims_share = ap (λ (s : ClaimSeatView). s.share) claims_is;
        of_stop = ap (λ (s : OpenSeatView). s.tasks) stop_is;
        stop_share = ap (λ (s : OpenSeatView). s.share) stop_is;
      };
      first_is = record {
        first = c.in_ok-best.best_seat;
        walked = c.walk_frontier.new.seat;
        begun = log_view (g.R.Recorder.told log) (g.R.Recorder.totals log) (g.R.Recorder.number log);
        frontier = c.in-Ok.ensures.walked;
        none_offered = ap (λ (s : SeatView). s.offered) best_is;
        seat_is = refl;
        fresh_log = record { told = c.in_ok-log.ensures.told; totals_are = c.in_ok-log.ensures.totals; number_is = c.in_ok-log.ensures.worker };
        log_is = c.in-Ok.ensures.log;
        number_is = refl;
        none_claimed = ap (λ (s : ClaimSeatView). s.claimed) claims_is;
        no_stop = ap (λ (s : OpenSeatView). s.stops) stop_is;
      };
      fits_sum = c.walk_frontier.ensures.fits;
      best_seats = c.in_ok-best.ensures.best;
      claims_seats = c.in_ok-claims.ensures.claims;
      stop_seats = c.in_ok-stop.ensures.tasks;
    }

use Rattle.std.proofs.Common.{◌≡◌, refl, sym, ap, subst, ◌∙◌, All}
use Rattle.std.specs.List.{AllByRecursion, sum_by}
use Rattle.yew_laws.specs.SearchTree.{search_tree}
use Rattle.yew_walk.specs.LogViews.{log_view}
use Rattle.yew_crew.specs.Crews.{stations_of}
use Rattle.yew_crew.specs.Joining.{seats_of}
use Rattle.yew_crew.specs.OpenSeats.{OpenSeatView, IsExact}
use Rattle.yew_crew.specs.Resting.{IsAllLeft}
use Rattle.yew_crew.proofs.Settling.{all-seated, all-passes, whole-passes, all-seats, whole-seats, whole-tasks}
use Rattle.yew_crew.proofs.ending.settle.Goals as goal

pub join_reports-requires-clause-seated : goal.join_reports-requires-clause-seated
join_reports-requires-clause-seated g c =
    all-seated (search_tree g.P.Problem c.args.problem.now) (g.T.Tally.join c.args.tally.now) (g.T.Tally.none c.args.tally.now) (g.T.Tally.of c.args.tally.now) (λ l. log_view (g.R.Recorder.told l) (g.R.Recorder.totals l) (g.R.Recorder.number l))
    c.args.coord c.args.worked.shared.gap (g.T.Tally.fits c.args.tally.now) c.args.worked.shared c.args.workers c.args.worked.reports.items c.requires

pub close_tasks-requires-clause-pool : goal.close_tasks-requires-clause-pool
close_tasks-requires-clause-pool g c = subst (All (λ pass. pass.pool ≡ c.args.worked.shared.pool)) (sym c.in_ok-seat.ensures.parts.passes)
    (all-passes (search_tree g.P.Problem c.args.problem.now) (g.T.Tally.join c.args.tally.now) (g.T.Tally.none c.args.tally.now) (g.T.Tally.of c.args.tally.now) (λ l. log_view (g.R.Recorder.told l) (g.R.Recorder.totals l) (g.R.Recorder.number l))
    c.args.coord c.args.worked.shared.gap (g.T.Tally.fits c.args.tally.now) c.args.worked.shared c.args.workers c.args.worked.reports.items c.requires)

pub close_tasks-requires-clause-passes : goal.close_tasks-requires-clause-passes
close_tasks-requires-clause-passes g c = ap (λ l. sum_by (λ pass. pass.share) l) c.in_ok-seat.ensures.parts.passes
    ∙ whole-passes (search_tree g.P.Problem c.args.problem.now) (g.T.Tally.join c.args.tally.now) (g.T.Tally.none c.args.tally.now) (g.T.Tally.of c.args.tally.now) (λ l. log_view (g.R.Recorder.told l) (g.R.Recorder.totals l) (g.R.Recorder.number l))
    c.args.coord c.args.worked.shared.gap (g.T.Tally.fits c.args.tally.now) c.args.worked.shared c.args.workers c.args.worked.reports.items c.requires

pub close_tasks-requires-clause-mail : goal.close_tasks-requires-clause-mail
close_tasks-requires-clause-mail g c = subst (AllByRecursion (λ seat. seat.mail ≡ c.args.worked.shared.mail)) (sym c.in_ok-seat.ensures.parts.seats)
    (all-seats (search_tree g.P.Problem c.args.problem.now) (g.T.Tally.join c.args.tally.now) (g.T.Tally.none c.args.tally.now) (g.T.Tally.of c.args.tally.now) (λ l. log_view (g.R.Recorder.told l) (g.R.Recorder.totals l) (g.R.Recorder.number l))
    c.args.coord c.args.worked.shared.gap (g.T.Tally.fits c.args.tally.now) c.args.worked.shared c.args.workers c.args.worked.reports.items c.requires)

pub close_tasks-requires-clause-seats : goal.close_tasks-requires-clause-seats
close_tasks-requires-clause-seats g c = ap (λ l. sum_by (λ seat. seat.share) l) c.in_ok-seat.ensures.parts.seats
    ∙ whole-seats (search_tree g.P.Problem c.args.problem.now) (g.T.Tally.join c.args.tally.now) (g.T.Tally.none c.args.tally.now) (g.T.Tally.of c.args.tally.now) (λ l. log_view (g.R.Recorder.told l) (g.R.Recorder.totals l) (g.R.Recorder.number l))
    c.args.coord c.args.worked.shared.gap (g.T.Tally.fits c.args.tally.now) c.args.worked.shared c.args.workers c.args.worked.reports.items c.requires

pub returns : goal.returns
returns g c =
    let parts = c.in_ok-seat.ensures.parts in record {
      settled = record {
        first = parts.first;
        rest = parts.rest;
        stands = parts.stands;
        word_is = refl;
        seat_is = parts.best;
        hands = parts.hands;
        logs = parts.logs;
        fault = parts.fault;
        word = c.load.result;
        exact = subst (λ (v : OpenSeatView). IsExact v c.load.result) parts.tasks
            (c.load.ensures.whole (ap (λ (v : OpenSeatView). v.share) parts.tasks
            ∙ whole-tasks (search_tree g.P.Problem c.args.problem.now) (g.T.Tally.join c.args.tally.now) (g.T.Tally.none c.args.tally.now) (g.T.Tally.of c.args.tally.now) (λ l. log_view (g.R.Recorder.told l) (g.R.Recorder.totals l) (g.R.Recorder.number l))
            c.args.coord c.args.worked.shared.gap (g.T.Tally.fits c.args.tally.now) c.args.worked.shared c.args.workers c.args.worked.reports.items c.requires parts.first parts.rest parts.stands));
        all_left = subst (λ l. IsAllLeft l (seats_of (stations_of c.args.worked.reports.items)) c.in_ok-left.left.items) parts.passes
            (subst (λ l. IsAllLeft c.in_ok-seat.field-0.passes.items l c.in_ok-left.left.items) parts.seats c.in_ok-left.ensures);
      };
    }

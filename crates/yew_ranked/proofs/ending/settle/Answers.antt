use Rattle.std.proofs.Common.{◌≡◌, ◌∙◌, ◌⊎◌, All, Contains, ap, sym, subst}
use Rattle.std.proofs.lemmas.List.Elements.{recursion_from_All}
use Rattle.yew_best.specs.Seats.{SeatView}
use Rattle.yew_crew.specs.OpenSeats.{OpenSeatView, IsExact}
use Rattle.yew_laws.specs.SearchTree.{search_tree}
use Rattle.yew_walk.specs.LogViews.{log_view}
use Rattle.yew_ranked.specs.ClaimSeats.{ClaimSeatView, AreBelow}
use Rattle.yew_ranked.proofs.SettledParts.{some-reports, reports-at, whole-best, whole-claims, whole-stop, best-whole, all-claimed}
use Rattle.yew_ranked.proofs.ending.settle.Goals as goal

pub join_reports-requires-clause-some : goal.join_reports-requires-clause-some
join_reports-requires-clause-some g c =
    let tally = c.args.tally.now in
    some-reports (search_tree g.P.Problem c.args.problem.now) (g.T.Tally.join tally) (g.T.Tally.none tally) (g.T.Tally.of tally) (λ l. log_view (g.R.Recorder.told l) (g.R.Recorder.totals l) (g.R.Recorder.number l))
    (g.T.Tally.fits tally) c.args.depth c.args.workers c.args.worked.shared c.args.worked.reports.items c.requires

pub join_reports-requires-clause-seated : goal.join_reports-requires-clause-seated
join_reports-requires-clause-seated g c =
    let tally = c.args.tally.now in
    reports-at (search_tree g.P.Problem c.args.problem.now) (g.T.Tally.join tally) (g.T.Tally.none tally) (g.T.Tally.of tally) (λ l. log_view (g.R.Recorder.told l) (g.R.Recorder.totals l) (g.R.Recorder.number l))
    (g.T.Tally.fits tally) c.args.depth c.args.workers c.args.worked.shared c.args.worked.reports.items c.requires

pub close-requires-clause-whole : goal.close-requires-clause-whole
close-requires-clause-whole g c =
    let tally = c.args.tally.now in
    let parts = c.in_ok-best_seat.ensures.parts in
    ap (λ (s : SeatView). s.share) parts.best
    ∙ whole-best (search_tree g.P.Problem c.args.problem.now) (g.T.Tally.join tally) (g.T.Tally.none tally) (g.T.Tally.of tally) (λ l. log_view (g.R.Recorder.told l) (g.R.Recorder.totals l) (g.R.Recorder.number l))
    (g.T.Tally.fits tally) c.args.depth c.args.workers c.args.worked.shared c.args.worked.reports.items c.requires parts.first parts.rest parts.stands

pub close-requires-2-clause-whole : goal.close-requires-2-clause-whole
close-requires-2-clause-whole g c =
    let tally = c.args.tally.now in
    let parts = c.in_ok-best_seat.ensures.parts in
    ap (λ (s : ClaimSeatView). s.share) parts.claims
    ∙ whole-claims (search_tree g.P.Problem c.args.problem.now) (g.T.Tally.join tally) (g.T.Tally.none tally) (g.T.Tally.of tally) (λ l. log_view (g.R.Recorder.told l) (g.R.Recorder.totals l) (g.R.Recorder.number l))
    (g.T.Tally.fits tally) c.args.depth c.args.workers c.args.worked.shared c.args.worked.reports.items c.requires parts.first parts.rest parts.stands

pub returns : goal.returns
returns g c =
    let tally = c.args.tally.now in
    let parts = c.in_ok-best_seat.ensures.parts in
    record {
      settled = record {
        seats = record {
          first = parts.first;
          rest = parts.rest;
          stands = parts.stands;
          none_heard = recursion_from_All (λ x. x ≡ 0) _ (subst (λ (s : SeatView). All (λ x. x ≡ 0) s.heard) parts.best c.close.ensures.heard);
          reads_offered = subst (λ (s : SeatView). All (λ x. (x ≡ 0) ⊎ Contains s.offered x) s.read) parts.best c.close.ensures.reads_offered;
          whole = best-whole (search_tree g.P.Problem c.args.problem.now) (g.T.Tally.join tally) (g.T.Tally.none tally) (g.T.Tally.of tally) (λ l. log_view (g.R.Recorder.told l) (g.R.Recorder.totals l) (g.R.Recorder.number l))
              (g.T.Tally.fits tally) c.args.depth c.args.workers c.args.worked.shared c.args.worked.reports.items c.requires parts.first parts.rest parts.stands;
          count = c.close-2.result;
          claimed = all-claimed c.args.worked.reports.items parts.first parts.rest c.close-2.result parts.stands
              (subst (λ (s : ClaimSeatView). AreBelow c.close-2.result s.claimed) parts.claims c.close-2.ensures);
        };
        saw = (subst (λ (v : OpenSeatView). IsExact v c.load.result) parts.stop (c.load.ensures.whole (ap (λ (v : OpenSeatView). v.share) parts.stop
            ∙ whole-stop (search_tree g.P.Problem c.args.problem.now) (g.T.Tally.join tally) (g.T.Tally.none tally) (g.T.Tally.of tally) (λ l. log_view (g.R.Recorder.told l) (g.R.Recorder.totals l) (g.R.Recorder.number l))
            (g.T.Tally.fits tally) c.args.depth c.args.workers c.args.worked.shared c.args.worked.reports.items c.requires parts.first parts.rest parts.stands))).saw;
        hands = parts.hands;
        logs = parts.logs;
        fault = parts.fault;
      };
    }

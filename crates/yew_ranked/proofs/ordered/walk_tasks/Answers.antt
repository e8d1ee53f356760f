use Rattle.std.proofs.Common.{◌≡◌}
use Rattle.yew_laws.specs.SearchTree.{search_tree}
use Rattle.yew_walk.specs.LogViews.{log_view}
use Rattle.yew_ranked.proofs.BegunSearch.{begun-items, begun-few, begun-ready, begun-seated, begun-crew}
use Rattle.yew_ranked.proofs.ordered.walk_tasks.Goals as goal

pub start-requires-clause-few : goal.start-requires-clause-few
start-requires-clause-few g c κs within =
    let tally = c.args.tally.now in
    begun-few (search_tree g.P.Problem c.args.problem.now) (g.T.Tally.join tally) (g.T.Tally.none tally) (g.T.Tally.of tally) (λ l. log_view (g.R.Recorder.told l) (g.R.Recorder.totals l) (g.R.Recorder.number l))
    (g.T.Tally.fits tally) c.args.depth c.args.workers c.args.begun.shared c.args.begun.first c.requires.begun

pub start-requires-clause-ready : goal.start-requires-clause-ready
start-requires-clause-ready g c κs within =
    let tally = c.args.tally.now in
    begun-ready (search_tree g.P.Problem c.args.problem.now) (g.T.Tally.join tally) (g.T.Tally.none tally) (g.T.Tally.of tally) (λ l. log_view (g.R.Recorder.told l) (g.R.Recorder.totals l) (g.R.Recorder.number l))
    (g.T.Tally.fits tally) c.args.depth c.args.workers c.args.begun.shared c.args.begun.first c.requires.begun c.in_ok-stations.stations.items c.in_ok-stations.ensures
    ((g.T.Tally.monoid tally).none_fits)

pub returns-clause-worked : goal.returns-clause-worked
returns-clause-worked g c =
    let tally = c.args.tally.now in
    let b = c.requires.begun in
    record {
      begun = c.in_ok-stations.stations.items;
      crew = begun-crew (search_tree g.P.Problem c.args.problem.now) (g.T.Tally.join tally) (g.T.Tally.none tally) (g.T.Tally.of tally) (λ l. log_view (g.R.Recorder.told l) (g.R.Recorder.totals l) (g.R.Recorder.number l))
          (g.T.Tally.fits tally) c.args.depth c.args.workers c.args.begun.shared c.args.begun.first b c.in_ok-stations.stations.items c.in_ok-stations.ensures;
      seated = begun-seated (search_tree g.P.Problem c.args.problem.now) (g.T.Tally.join tally) (g.T.Tally.none tally) (g.T.Tally.of tally) (λ l. log_view (g.R.Recorder.told l) (g.R.Recorder.totals l) (g.R.Recorder.number l))
          (g.T.Tally.fits tally) c.args.depth c.args.workers c.args.begun.shared c.args.begun.first b c.in_ok-stations.stations.items c.in_ok-stations.ensures;
      are_reports = c.in_ok-reports.ensures.reports c.args.depth;
      fit = c.in_ok-reports.ensures.fits;
      best_seats = b.best_seats;
      claims_seats = b.claims_seats;
      stop_seats = b.stop_seats;
    }

pub returns-clause-few : goal.returns-clause-few
returns-clause-few g c =
    let tally = c.args.tally.now in
    begun-items (search_tree g.P.Problem c.args.problem.now) (g.T.Tally.join tally) (g.T.Tally.none tally) (g.T.Tally.of tally) (λ l. log_view (g.R.Recorder.told l) (g.R.Recorder.totals l) (g.R.Recorder.number l))
    (g.T.Tally.fits tally) c.args.depth c.args.workers c.args.begun.shared c.args.begun.first c.requires.begun

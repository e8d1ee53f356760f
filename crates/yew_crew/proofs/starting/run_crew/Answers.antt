use Rattle.std.proofs.Common.{◌≤◌, sym, subst}
use Rattle.yew_laws.specs.SearchTree.{search_tree}
use Rattle.yew_laws.specs.Tasks.{members_of}
use Rattle.yew_walk.specs.LogViews.{LogView, log_view}
use Rattle.yew_crew.proofs.CrewOver.{crew-ready}
use Rattle.yew_crew.proofs.starting.run_crew.Goals as goal

pub start-requires-clause-gap : goal.start-requires-clause-gap
start-requires-clause-gap g c κs within = subst (λ n. n ≤ 1099511627774) (sym c.in_ok-shared.ensures.gap) c.requires.gap

pub start-requires-clause-ready : goal.start-requires-clause-ready
start-requires-clause-ready g c κs within =
    let tally = c.args.tally.now in
    let seen : g.row.R.Denot → LogView = λ log. log_view (g.R.Recorder.told log) (g.R.Recorder.totals log) (g.R.Recorder.number log) in
    crew-ready (members_of (search_tree g.P.Problem c.args.problem.now)) (g.T.Tally.none tally) seen _ (g.T.Tally.fits tally) ((g.T.Tally.monoid tally).none_fits) c.args.workers _ c.in_ok-shared.ensures.crew

pub returns-clause-worked : goal.returns-clause-worked
returns-clause-worked g c =
    let tally = c.args.tally.now in
    let seen : g.row.R.Denot → LogView = λ log. log_view (g.R.Recorder.told log) (g.R.Recorder.totals log) (g.R.Recorder.number log) in
    let crew = c.in_ok-shared.field-0 in
    record {
      begun = crew.stations.items;
      crew = c.in_ok-shared.ensures.crew;
      are_reports = c.in_ok-reports.ensures.reports;
      fit = c.in_ok-reports.ensures.fits;
    }

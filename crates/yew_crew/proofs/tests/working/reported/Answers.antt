use Rattle.std.proofs.Common.{◌≤◌, sym, subst, arith}
use Rattle.std.specs.List.{AllByRecursion}
use Rattle.yew_laws.specs.SearchTree.{search_tree}
use Rattle.yew_laws.specs.Tasks.{members_of}
use Rattle.yew_walk.specs.LogViews.{LogView, log_view}
use Rattle.yew_crew.specs.Stations.{IsReady}
use Rattle.yew_crew.proofs.CrewOver.{crew-ready}
use Rattle.yew_crew.proofs.Rows.{all_but_last}
use Rattle.yew_crew.proofs.tests.working.reported.Goals as goal

pub worker-requires-clause-gap : goal.worker-requires-clause-gap
worker-requires-clause-gap g c κs within = subst (λ n. n ≤ 1099511627774) (sym c.in_ok-shared.ensures.gap) (omega arith)

pub worker-requires-clause-ready : goal.worker-requires-clause-ready
worker-requires-clause-ready g c κs within =
    let tally = c.args.tally.now in
    let members = members_of (search_tree g.P.Problem c.args.problem.now) in
    let crew = c.in_ok-shared.field-0 in
    let ready = IsReady (g.T.Tally.fits tally) members crew.shared in
    let seen : g.row.R.Denot → LogView = λ log. log_view (g.R.Recorder.told log) (g.R.Recorder.totals log) (g.R.Recorder.number log) in
    (all_but_last ready c.pop.new.self.items c.in-Some.station
    (subst (AllByRecursion ready) c.in-Some.ensures.items
    (crew-ready members (g.T.Tally.none tally) seen crew.shared (g.T.Tally.fits tally) ((g.T.Tally.monoid tally).none_fits) 1 crew.stations.items c.in_ok-shared.ensures.crew))).1

use Rattle.std.proofs.Common.{◌≤◌, sym, subst, IfOk, IfErr, IsSome}
use Rattle.yew_laws.specs.SearchTree.{search_tree}
use Rattle.yew_walk.specs.LogViews.{log_view}
use Rattle.yew_crew.specs.CrewSearch.{IsCrewFault}
use Rattle.yew_crew.specs.Ending.{IsFound}
use Rattle.yew_crew.specs.Stations.{searched, skeleton_of}
use Rattle.yew_crew.proofs.search.search_together.Goals as goal

pub end_crew-requires-clause-gap : goal.end_crew-requires-clause-gap
end_crew-requires-clause-gap g c κs within = subst (λ n. n ≤ 1099511627774) (sym c.in_ok-worked.ensures.gap) c.requires.gap

pub returns-clause-found : goal.returns-clause-found
returns-clause-found g c =
    subst (λ gap. IfOk c.end_crew.result (λ ended. IsFound (searched (search_tree g.Q.Problem c.args.problem.now) (g.T.Tally.join c.args.tally.now) (g.T.Tally.none c.args.tally.now) (g.T.Tally.of c.args.tally.now)
    (λ log. log_view (g.R.Recorder.told log) (g.R.Recorder.totals log) (g.R.Recorder.number log)) c.args.coord gap) c.args.workers ended.hand ended.logs.items)) c.in_ok-worked.ensures.gap c.end_crew.ensures.found

pub returns-clause-fault : goal.returns-clause-fault
returns-clause-fault g c =
    subst (λ gap. IfErr c.end_crew.result (IsCrewFault (search_tree g.Q.Problem c.args.problem.now) gap (skeleton_of c.args.coord) c.args.workers ((log : _) × IsSome (g.R.Recorder.told log))))
    c.in_ok-worked.ensures.gap c.end_crew.ensures.fault

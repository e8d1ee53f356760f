use Rattle.std.proofs.Common.{◌∷◌, []}
use Rattle.yew_laws.specs.SearchTree.{search_tree}
use Rattle.yew_walk.specs.LogViews.{log_view}
use Rattle.yew_crew.specs.Rounds.{thief_station}
use Rattle.yew_crew.specs.Stations.{searched}
use Rattle.yew_crew.specs.declared.coord.Coord.TheVariants.{Steal}
use Rattle.yew_crew.proofs.StealRounds.{work-idle, work-faulty}
use Rattle.yew_crew.proofs.WorkSteps.{work-more}
use Rattle.yew_crew.proofs.steal_worker.task_round.Goals as goal

pub returns-in-Ok-clause-round : goal.returns-in-Ok-clause-round
returns-in-Ok-clause-round g c = λ rest first fits w.
    let s = searched (search_tree g.P.Problem c.args.problem.now) (g.T.Tally.join c.args.tally.now) (g.T.Tally.none c.args.tally.now) (g.T.Tally.of c.args.tally.now)
    (λ l. log_view (g.R.Recorder.told l) (g.R.Recorder.totals l) (g.R.Recorder.number l)) (Steal c.args.chunk) c.args.gap in
    let path = c.args.task.path.numbers in
    let thief = c.args.thief.now in
    let opened = record thief { outlet = c.open.new.self } in
    let after = record thief { best = c.walk_handing.new.seat; outlet = c.walk_handing.new.outlet; hand = c.walk_handing.new.hand; log = c.walk_handing.new.log } in
    work-more s (g.T.Tally.monoid c.args.tally.now) (g.T.Tally.of_fits c.args.tally.now) path rest first (thief_station opened) (thief_station after) fits
    (work-idle s [] (path ∷ rest) first thief c.open.new.self c.open.ensures.idle w) (c.in-Ok.ensures.step thief.number thief.pool)

pub returns-in-Err-clause-round : goal.returns-in-Err-clause-round
returns-in-Err-clause-round g c = λ rest first fits w.
    let s = searched (search_tree g.P.Problem c.args.problem.now) (g.T.Tally.join c.args.tally.now) (g.T.Tally.none c.args.tally.now) (g.T.Tally.of c.args.tally.now)
    (λ l. log_view (g.R.Recorder.told l) (g.R.Recorder.totals l) (g.R.Recorder.number l)) (Steal c.args.chunk) c.args.gap in
    let path = c.args.task.path.numbers in
    let thief = c.args.thief.now in
    let opened = record thief { outlet = c.open.new.self } in
    let after = record thief { best = c.walk_handing.new.seat; outlet = c.walk_handing.new.outlet; hand = c.walk_handing.new.hand; log = c.walk_handing.new.log } in
    work-faulty (search_tree g.P.Problem c.args.problem.now) (g.T.Tally.join c.args.tally.now) (g.T.Tally.none c.args.tally.now) (g.T.Tally.of c.args.tally.now)
    (λ l. log_view (g.R.Recorder.told l) (g.R.Recorder.totals l) (g.R.Recorder.number l)) (Steal c.args.chunk) c.args.gap rest path c.in-Err.fault first opened after c.stop.new.self c.stop.ensures
    (work-idle s [] (path ∷ rest) first thief c.open.new.self c.open.ensures.idle w) (c.in-Err.ensures.refused thief.number thief.pool)

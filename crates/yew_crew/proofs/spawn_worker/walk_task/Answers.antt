use Rattle.std.proofs.Common.{ℕ, subst}
use Rattle.yew_laws.specs.SearchTree.{search_tree}
use Rattle.yew_log.specs.Policies.{HasPolicy, depth_policy, budget_policy, Spending}
use Rattle.yew_log.proofs.PolicyRows.{depth-groups, budget-groups}
use Rattle.yew_walk.proofs.Results.{OnOk-map}
use Rattle.yew_walk.specs.LogViews.{log_view}
use Rattle.yew_crew.specs.Stations.{IsCoord}
use Rattle.yew_crew.specs.Turns.{station_of}
use Rattle.yew_crew.specs.declared.coord.Coord.TheVariants.{Depth, Budget}
use Rattle.yew_crew.proofs.WorkerTurns.{IfErr-map, step-by, broken-by}
use Rattle.yew_crew.proofs.spawn_worker.walk_task.Goals as goal

pub walk_spawning-requires-clause-groups : goal.walk_spawning-requires-clause-groups
walk_spawning-requires-clause-groups g c κs within = λ answers body has.
    depth-groups (search_tree g.P.Problem c.args.problem.now) answers body c.in-Depth.depth
    (subst (λ (depth : ℕ). HasPolicy (search_tree g.P.Problem c.args.problem.now) depth_policy depth answers body) c.new.ensures has)

pub walk_spawning-requires-in-Budget-clause-groups : goal.walk_spawning-requires-in-Budget-clause-groups
walk_spawning-requires-in-Budget-clause-groups g c κs within = λ answers body has.
    budget-groups (search_tree g.P.Problem c.args.problem.now) answers body c.in-Budget.every 0 (subst IsCoord c.in-Budget.is c.requires.coord)
    (subst (λ (state : Spending). HasPolicy (search_tree g.P.Problem c.args.problem.now) budget_policy state answers body) c.new-in-Budget.ensures has)

pub returns-in-Depth-clause-step : goal.returns-in-Depth-clause-step
returns-in-Depth-clause-step g c =
    step-by (search_tree g.P.Problem c.args.problem.now) (g.T.Tally.join c.args.tally.now) (g.T.Tally.none c.args.tally.now) (g.T.Tally.of c.args.tally.now)
    (λ l. log_view (g.R.Recorder.told l) (g.R.Recorder.totals l) (g.R.Recorder.number l)) c.args.coord (Depth c.in-Depth.depth) c.args.gap c.args.task.path.numbers
    (station_of c.args.spawner.now) _ c.walk_spawning.result c.in-Depth.is
    (OnOk-map c.walk_spawning.result (λ step. step c.args.spawner.now.number c.args.spawner.now.mail) c.walk_spawning.ensures.step)

pub returns-in-Depth-clause-refused : goal.returns-in-Depth-clause-refused
returns-in-Depth-clause-refused g c =
    broken-by (search_tree g.P.Problem c.args.problem.now) (g.T.Tally.join c.args.tally.now) (g.T.Tally.none c.args.tally.now) (g.T.Tally.of c.args.tally.now)
    (λ l. log_view (g.R.Recorder.told l) (g.R.Recorder.totals l) (g.R.Recorder.number l)) c.args.coord (Depth c.in-Depth.depth) c.args.gap c.args.task.path.numbers
    (station_of c.args.spawner.now) _ c.walk_spawning.result c.in-Depth.is
    (IfErr-map c.walk_spawning.result (λ fault step. step c.args.spawner.now.number c.args.spawner.now.mail) c.walk_spawning.ensures.refused)

pub returns-in-Budget-clause-step : goal.returns-in-Budget-clause-step
returns-in-Budget-clause-step g c =
    step-by (search_tree g.P.Problem c.args.problem.now) (g.T.Tally.join c.args.tally.now) (g.T.Tally.none c.args.tally.now) (g.T.Tally.of c.args.tally.now)
    (λ l. log_view (g.R.Recorder.told l) (g.R.Recorder.totals l) (g.R.Recorder.number l)) c.args.coord (Budget c.in-Budget.every) c.args.gap c.args.task.path.numbers
    (station_of c.args.spawner.now) _ c.walk_spawning-in-Budget.result c.in-Budget.is
    (OnOk-map c.walk_spawning-in-Budget.result (λ step. step c.args.spawner.now.number c.args.spawner.now.mail) c.walk_spawning-in-Budget.ensures.step)

pub returns-in-Budget-clause-refused : goal.returns-in-Budget-clause-refused
returns-in-Budget-clause-refused g c =
    broken-by (search_tree g.P.Problem c.args.problem.now) (g.T.Tally.join c.args.tally.now) (g.T.Tally.none c.args.tally.now) (g.T.Tally.of c.args.tally.now)
    (λ l. log_view (g.R.Recorder.told l) (g.R.Recorder.totals l) (g.R.Recorder.number l)) c.args.coord (Budget c.in-Budget.every) c.args.gap c.args.task.path.numbers
    (station_of c.args.spawner.now) _ c.walk_spawning-in-Budget.result c.in-Budget.is
    (IfErr-map c.walk_spawning-in-Budget.result (λ fault step. step c.args.spawner.now.number c.args.spawner.now.mail)
    c.walk_spawning-in-Budget.ensures.refused)

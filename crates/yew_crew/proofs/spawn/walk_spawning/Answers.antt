use Rattle.std.proofs.Common.{arith, refl, subst, sym}
use Rattle.std.specs.Prelude.{IsSome}
use Rattle.yew_laws.specs.SearchTree.{search_tree}
use Rattle.yew_walk.specs.LogViews.{log_view}
use Rattle.yew_crew.proofs.BrokenSteps.{spawn-broken}
use Rattle.yew_crew.proofs.SpawnStep.{spawn-step, sends-spawned}
use Rattle.yew_crew.proofs.spawn.walk_spawning.Goals as goal

pub returns-clause-step : goal.returns-clause-step
returns-clause-step g c = λ number mail.
    spawn-step g.P.Problem c.args.problem.now (g.T.Tally.join c.args.tally.now) (g.T.Tally.none c.args.tally.now) (g.T.Tally.of c.args.tally.now)
    (λ l. log_view (g.R.Recorder.told l) (g.R.Recorder.totals l) (g.R.Recorder.number l))
    c.args.coord c.args.gap g.Q.Policy.meaning c.args.task.path.numbers _ number mail c.args.seat.now c.walk.new.seat c.args.hand.now c.walk.new.hand c.args.policy.now
    c.walk.new.policy c.args.outlet.now c.walk.new.outlet c.ended.new.self _ _ c.args.log.now c.walk.new.log
    (g.P.Problem.ranked c.args.problem.now) c.requires.root (subst IsSome (sym c.requires.task.found) refl) c.requires.spawns c.requires.groups
    (sends-spawned (search_tree g.P.Problem c.args.problem.now) c.args.coord c.requires.spawns) c.in-Ok.ensures.walked c.in-Ok.ensures.kept
    c.in-Ok.ensures.later c.ended.ensures c.in-Ok.ensures.seat c.in-Ok.ensures.share
    (let e = c.in-Ok.ensures.space in let r = c.requires.space in omega arith)

pub returns-in-Err-clause-refused : goal.returns-in-Err-clause-refused
returns-in-Err-clause-refused g c = λ number mail.
    spawn-broken g.P.Problem c.args.problem.now (g.T.Tally.join c.args.tally.now) (g.T.Tally.none c.args.tally.now) (g.T.Tally.of c.args.tally.now)
    (λ l. log_view (g.R.Recorder.told l) (g.R.Recorder.totals l) (g.R.Recorder.number l))
    c.args.coord c.args.gap g.Q.Policy.meaning c.args.task.path.numbers c.in-Err.fault number mail c.args.seat.now c.walk.new.seat c.args.hand.now c.walk.new.hand
    c.args.policy.now c.walk.new.policy c.args.outlet.now c.walk.new.outlet _ _ c.args.log.now c.walk.new.log
    c.in-Err.ensures.refused c.in-Err.ensures.kept c.in-Err.ensures.seat c.in-Err.ensures.share

use Rattle.std.proofs.Common.{arith, refl, subst, sym, ap, ◌∙◌}
use Rattle.std.specs.Prelude.{IsSome}
use Rattle.yew_walk.specs.LogViews.{log_view}
use Rattle.yew_laws.specs.Tasks.{Members}
use Rattle.yew_laws.specs.declared.problem.Task.{Task}
use Rattle.yew_mail.specs.Seats.{SeatView}
use Rattle.yew_crew.specs.Outlets.{HandingView}
use Rattle.yew_crew.proofs.HandStep.{hand-step, hand-broken}
use Rattle.yew_crew.proofs.hand_walk.walk_handing.Goals as goal

pub returns-clause-step : goal.returns-clause-step
returns-clause-step g c = λ number pass.
    hand-step g.P.Problem c.args.problem.now (g.T.Tally.join c.args.tally.now) (g.T.Tally.none c.args.tally.now) (g.T.Tally.of c.args.tally.now)
    (λ l. log_view (g.R.Recorder.told l) (g.R.Recorder.totals l) (g.R.Recorder.number l)) c.args.chunk c.args.gap c.args.task.path.numbers _ number pass
    c.args.seat.now c.walk.new.seat c.args.hand.now c.walk.new.hand c.new-policy.result c.walk.new.policy c.args.outlet.now c.walk.new.outlet c.ended.new.self c.args.log.now c.walk.new.log
    (g.P.Problem.ranked c.args.problem.now) c.requires.root (subst IsSome (sym c.requires.task.found) refl) c.new-policy.ensures
    c.in-Ok.ensures.walked c.in-Ok.ensures.kept c.in-Ok.ensures.later c.ended.ensures c.in-Ok.ensures.seat c.in-Ok.ensures.share
    (let e = c.in-Ok.ensures.space in let r = c.requires.space in omega arith)

pub returns-in-Err-clause-refused : goal.returns-in-Err-clause-refused
returns-in-Err-clause-refused g c = λ number pass.
    hand-broken g.P.Problem c.args.problem.now (g.T.Tally.join c.args.tally.now) (g.T.Tally.none c.args.tally.now) (g.T.Tally.of c.args.tally.now)
    (λ l. log_view (g.R.Recorder.told l) (g.R.Recorder.totals l) (g.R.Recorder.number l)) c.args.chunk c.args.gap c.args.task.path.numbers c.in-Err.fault number pass
    c.args.seat.now c.walk.new.seat c.args.hand.now c.walk.new.hand c.new-policy.result c.walk.new.policy c.args.outlet.now c.walk.new.outlet c.args.log.now c.walk.new.log
    c.in-Err.ensures.refused c.in-Err.ensures.kept c.in-Err.ensures.seat c.in-Err.ensures.share

pub returns-clause-ask : goal.returns-clause-ask
returns-clause-ask g c = ap (λ (o : HandingView _ _). o.seat.ask) c.ended.ensures ∙ ap (λ (m : SeatView (Task _) (Members _)). m.ask) c.in-Ok.ensures.kept.seat

pub returns-in-Err-clause-ask : goal.returns-in-Err-clause-ask
returns-in-Err-clause-ask g c = ap (λ (m : SeatView (Task _) (Members _)). m.ask) c.in-Err.ensures.kept.seat

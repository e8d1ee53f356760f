use Rattle.std.proofs.Common.{map, length, ap, arith}
use Rattle.std.proofs.lemmas.List.{length-map}
use Rattle.yew_crew.specs.OpenSeats.{OpenSeatView}
use Rattle.yew_laws.specs.SearchTree.{search_tree}
use Rattle.yew_walk.specs.LogViews.{log_view}
use Rattle.yew_ranked.specs.Tasks.{numbered_task}
use Rattle.yew_ranked.proofs.WorkerSteps.{work-stopped, work-done, work-more, work-broken, place-task}
use Rattle.yew_ranked.proofs.worker.take_turn.Goals as goal

pub returns-then-stopped-clause-turned : goal.returns-then-stopped-clause-turned
returns-then-stopped-clause-turned g c = λ first fits w.
    work-stopped (search_tree g.P.Problem c.args.problem.now) (g.T.Tally.join c.args.tally.now) (g.T.Tally.none c.args.tally.now) (g.T.Tally.of c.args.tally.now)
    (λ l. log_view (g.R.Recorder.told l) (g.R.Recorder.totals l) (g.R.Recorder.number l)) (map numbered_task c.args.shared.now.tasks.items)
    first c.args.station.now w c.stopped.new.seat c.stopped.result c.if-stopped.true c.stopped.ensures

pub returns-then-place-len-clause-turned : goal.returns-then-place-len-clause-turned
returns-then-place-len-clause-turned g c = λ first fits w.
    work-done (search_tree g.P.Problem c.args.problem.now) (g.T.Tally.join c.args.tally.now) (g.T.Tally.none c.args.tally.now) (g.T.Tally.of c.args.tally.now)
    (λ l. log_view (g.R.Recorder.told l) (g.R.Recorder.totals l) (g.R.Recorder.number l)) (map numbered_task c.args.shared.now.tasks.items)
    first c.args.station.now w c.stopped.new.seat
    (ap (λ (v : OpenSeatView). v.tasks) c.stopped.ensures) (ap (λ (v : OpenSeatView). v.share) c.stopped.ensures) (ap (λ (v : OpenSeatView). v.stops) c.stopped.ensures)
    c.claim-place.new.seat c.claim-place.result c.claim-place.ensures.claimed
    (omega (arith, c.if-place-len.true, c.len.ensures, length-map c.args.shared.now.tasks.items numbered_task))

pub returns-in-Ok-clause-turned : goal.returns-in-Ok-clause-turned
returns-in-Ok-clause-turned g c = λ first fits w.
    work-more (search_tree g.P.Problem c.args.problem.now) (g.T.Tally.join c.args.tally.now) (g.T.Tally.none c.args.tally.now) (g.T.Tally.of c.args.tally.now)
    (λ l. log_view (g.R.Recorder.told l) (g.R.Recorder.totals l) (g.R.Recorder.number l)) (map numbered_task c.args.shared.now.tasks.items)
    first c.args.station.now w c.stopped.new.seat
    (ap (λ (v : OpenSeatView). v.tasks) c.stopped.ensures) (ap (λ (v : OpenSeatView). v.share) c.stopped.ensures) (ap (λ (v : OpenSeatView). v.stops) c.stopped.ensures)
    c.claim-place.new.seat c.claim-place.result c.claim-place.ensures.claimed c.claim-place.ensures.above (numbered_task c.index.result.now)
    (place-task c.args.shared.now.tasks.items c.claim-place.result c.index.result.now (omega (arith, c.if-place-len.false, c.len.ensures)) c.index.ensures)
    (g.T.Tally.monoid c.args.tally.now) (g.T.Tally.of_fits c.args.tally.now) fits c.walk_task.new.station c.in-Ok.ensures.step

pub returns-in-Err-clause-turned : goal.returns-in-Err-clause-turned
returns-in-Err-clause-turned g c = λ first fits w.
    work-broken (search_tree g.P.Problem c.args.problem.now) (g.T.Tally.join c.args.tally.now) (g.T.Tally.none c.args.tally.now) (g.T.Tally.of c.args.tally.now)
    (λ l. log_view (g.R.Recorder.told l) (g.R.Recorder.totals l) (g.R.Recorder.number l)) (map numbered_task c.args.shared.now.tasks.items)
    first c.args.station.now w c.stopped.new.seat
    (ap (λ (v : OpenSeatView). v.tasks) c.stopped.ensures) (ap (λ (v : OpenSeatView). v.share) c.stopped.ensures) (ap (λ (v : OpenSeatView). v.stops) c.stopped.ensures)
    c.claim-place.new.seat c.claim-place.result c.claim-place.ensures.claimed c.claim-place.ensures.above (numbered_task c.index.result.now)
    (place-task c.args.shared.now.tasks.items c.claim-place.result c.index.result.now (omega (arith, c.if-place-len.false, c.len.ensures)) c.index.ensures)
    c.in-Err.fault c.walk_task.new.station c.stop.new.seat c.stop.ensures c.in-Err.ensures.refused

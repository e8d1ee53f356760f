use Rattle.std.proofs.Common.{None}
use Rattle.yew_walk.specs.LogViews.{log_view}
use Rattle.yew_walk.specs.Scenes.{scene}
use Rattle.yew_walk.proofs.AloneRuns.{IsFresh, fresh-scene, alone-log, alone-best, alone-sum, alone-fault}
use Rattle.yew_walk.proofs.search.search_alone.Goals as goal

pub returns-in-Ok-clause-best : goal.returns-in-Ok-clause-best
returns-in-Ok-clause-best g c =
    let t = c.args.tally.now in
    let log = c.in_ok-log.log in
    let first = scene c.in_ok-best.seat c.in_ok-hand.hand tt c.new-outlet.result.tasks.items None (log_view (g.R.Recorder.told log) (g.R.Recorder.totals log) (g.R.Recorder.number log)) in
    let fresh : IsFresh (g.T.Tally.none t) first = fresh-scene c.in_ok-best.ensures.seat c.in_ok-best.ensures.best c.in_ok-hand.ensures.holds c.in_ok-hand.ensures.sum c.in_ok-log.ensures.told c.in_ok-log.ensures.totals c.in_ok-log.ensures.worker in
    alone-best g.Q.Problem c.args.problem.now c.args.keying c.requires.keying.1 (g.T.Tally.join t) (g.T.Tally.of t) (g.T.Tally.none t) c.requires.root first _ fresh (rw c.in_ok-empty.ensures.numbers at c.in-Ok.ensures.walked)

pub returns-in-Ok-clause-sum : goal.returns-in-Ok-clause-sum
returns-in-Ok-clause-sum g c =
    let t = c.args.tally.now in
    let log = c.in_ok-log.log in
    let first = scene c.in_ok-best.seat c.in_ok-hand.hand tt c.new-outlet.result.tasks.items None (log_view (g.R.Recorder.told log) (g.R.Recorder.totals log) (g.R.Recorder.number log)) in
    let fresh : IsFresh (g.T.Tally.none t) first = fresh-scene c.in_ok-best.ensures.seat c.in_ok-best.ensures.best c.in_ok-hand.ensures.holds c.in_ok-hand.ensures.sum c.in_ok-log.ensures.told c.in_ok-log.ensures.totals c.in_ok-log.ensures.worker in
    alone-sum g.Q.Problem c.args.problem.now c.args.keying c.requires.keying.1 (g.T.Tally.join t) (g.T.Tally.of t) (g.T.Tally.none t) c.requires.root first _ fresh (rw c.in_ok-empty.ensures.numbers at c.in-Ok.ensures.walked) (g.T.Tally.monoid t) (g.T.Tally.of_fits t)

pub returns-in-Ok-clause-log : goal.returns-in-Ok-clause-log
returns-in-Ok-clause-log g c =
    let t = c.args.tally.now in
    let log = c.in_ok-log.log in
    let first = scene c.in_ok-best.seat c.in_ok-hand.hand tt c.new-outlet.result.tasks.items None (log_view (g.R.Recorder.told log) (g.R.Recorder.totals log) (g.R.Recorder.number log)) in
    let fresh : IsFresh (g.T.Tally.none t) first = fresh-scene c.in_ok-best.ensures.seat c.in_ok-best.ensures.best c.in_ok-hand.ensures.holds c.in_ok-hand.ensures.sum c.in_ok-log.ensures.told c.in_ok-log.ensures.totals c.in_ok-log.ensures.worker in
    alone-log g.Q.Problem c.args.problem.now c.args.keying c.requires.keying.1 (g.T.Tally.join t) (g.T.Tally.of t) (g.T.Tally.none t) c.requires.root first _ fresh (rw c.in_ok-empty.ensures.numbers at c.in-Ok.ensures.walked)

pub returns-clause-fault : goal.returns-clause-fault
returns-clause-fault g c =
    let t = c.args.tally.now in
    let log = c.in_ok-log.log in
    let first = scene c.in_ok-best.seat c.in_ok-hand.hand tt c.new-outlet.result.tasks.items None (log_view (g.R.Recorder.told log) (g.R.Recorder.totals log) (g.R.Recorder.number log)) in
    let fresh : IsFresh (g.T.Tally.none t) first = fresh-scene c.in_ok-best.ensures.seat c.in_ok-best.ensures.best c.in_ok-hand.ensures.holds c.in_ok-hand.ensures.sum c.in_ok-log.ensures.told c.in_ok-log.ensures.totals c.in_ok-log.ensures.worker in
    alone-fault g.Q.Problem c.args.problem.now c.args.keying c.requires.keying.1 (g.T.Tally.join t) (g.T.Tally.of t) (g.T.Tally.none t) c.requires.root first _ fresh _ (λ told. (c.walk.new.log, told)) c.in-Err.fault (rw c.in_ok-empty.ensures.numbers at c.in-Err.ensures.refused)

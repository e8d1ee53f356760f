use Rattle.std.proofs.Common.{◌∙◌, refl}
use Rattle.yew_laws.specs.SearchTree.{search_tree}
use Rattle.yew_walk.specs.LogViews.{log_view}
use Rattle.yew_crew.specs.Stations.{searched}
use Rattle.yew_crew.specs.Turns.{station_of}
use Rattle.yew_crew.proofs.WorkTurns.{work-begins}
use Rattle.yew_crew.proofs.WorkerTurns.{reported}
use Rattle.yew_crew.proofs.spawn_worker.spawn_worker.Goals as goal

pub loop-init : goal.loop-init
loop-init g c =
    let ready = c.requires.ready in
    record {
      problem = refl;
      fits = ready.fits_sum;
      working = work-begins (searched (search_tree g.P.Problem c.args.problem.now) (g.T.Tally.join c.args.tally.now) (g.T.Tally.none c.args.tally.now)
          (g.T.Tally.of c.args.tally.now)
          (λ l. log_view (g.R.Recorder.told l) (g.R.Recorder.totals l) (g.R.Recorder.number l)) c.args.coord c.args.shared.now.gap) (g.T.Tally.monoid c.args.tally.now)
          c.args.station ready.fits_sum ready.space;
    }

pub take_turn-requires-clause-seat : goal.take_turn-requires-clause-seat
take_turn-requires-clause-seat g c κs within = c.loop.invariant.working.same.best ∙ c.requires.ready.of_best

pub take_turn-requires-clause-outlet : goal.take_turn-requires-clause-outlet
take_turn-requires-clause-outlet g c κs within = c.loop.invariant.problem

pub take_turn-requires-clause-space : goal.take_turn-requires-clause-space
take_turn-requires-clause-space g c κs within = c.loop.invariant.working.space

pub take_turn-requires-clause-fits : goal.take_turn-requires-clause-fits
take_turn-requires-clause-fits g c κs within = c.loop.invariant.fits

pub loop-preserved-in-Walked : goal.loop-preserved-in-Walked
loop-preserved-in-Walked g c =
    record {
      problem = c.take_turn.ensures.problem ∙ c.loop.invariant.problem;
      fits = c.take_turn.ensures.fits;
      working = c.in-Walked.ensures.turned c.args.station c.requires.ready.fits_sum c.loop.invariant.working;
    }

pub loop-preserved : goal.loop-preserved
loop-preserved g c =
    record {
      problem = c.take_turn.ensures.problem ∙ c.loop.invariant.problem;
      fits = c.take_turn.ensures.fits;
      working = c.in-Idle.ensures.turned c.args.station c.requires.ready.fits_sum c.loop.invariant.working;
    }

pub returns-in-Ended-clause-report : goal.returns-in-Ended-clause-report
returns-in-Ended-clause-report g c =
    reported (search_tree g.P.Problem c.args.problem.now) (g.T.Tally.join c.args.tally.now) (g.T.Tally.none c.args.tally.now) (g.T.Tally.of c.args.tally.now)
    (λ l. log_view (g.R.Recorder.told l) (g.R.Recorder.totals l) (g.R.Recorder.number l)) c.args.coord
    c.args.shared.now.gap c.args.station (station_of c.take_turn.new.spawner) c.in-Ended.end c.report.result c.report.ensures
    (c.in-Ended.ensures.turned c.args.station c.requires.ready.fits_sum c.loop.invariant.working)

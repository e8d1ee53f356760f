use Rattle.std.proofs.Common.{[], ◌∙◌, sym, subst}
use Rattle.std.specs.List.{AllByRecursion}
use Rattle.yew_laws.specs.SearchTree.{search_tree, IsTask}
use Rattle.yew_laws.specs.declared.problem.Task.{Task}
use Rattle.yew_stack.specs.Splits.{paths_of}
use Rattle.yew_walk.specs.LogViews.{log_view}
use Rattle.yew_crew.specs.Rounds.{thief_station}
use Rattle.yew_crew.specs.Stations.{searched}
use Rattle.yew_crew.specs.Working.{IsWorking}
use Rattle.yew_crew.specs.declared.coord.Coord.TheVariants.{Steal}
use Rattle.yew_crew.proofs.StealRounds.{goes-on}
use Rattle.yew_crew.proofs.WorkTurns.{work-begins}
use Rattle.yew_crew.proofs.steal_worker.all_rounds.Goals as goal

pub returns-in-Ended-clause-same : goal.returns-in-Ended-clause-same
returns-in-Ended-clause-same g c =
    (c.in-Ended.ensures.round (thief_station c.args.thief.now) c.requires.ready.fits_sum
    (work-begins (searched (search_tree g.P.Problem c.args.problem.now) (g.T.Tally.join c.args.tally.now) (g.T.Tally.none c.args.tally.now) (g.T.Tally.of c.args.tally.now)
    (λ l. log_view (g.R.Recorder.told l) (g.R.Recorder.totals l) (g.R.Recorder.number l)) (Steal c.args.chunk) c.args.shared.now.gap) (g.T.Tally.monoid c.args.tally.now)
    (thief_station c.args.thief.now) c.requires.ready.fits_sum c.requires.ready.space)).0

pub returns-in-Ended-clause-end : goal.returns-in-Ended-clause-end
returns-in-Ended-clause-end g c =
    (c.in-Ended.ensures.round (thief_station c.args.thief.now) c.requires.ready.fits_sum
    (work-begins (searched (search_tree g.P.Problem c.args.problem.now) (g.T.Tally.join c.args.tally.now) (g.T.Tally.none c.args.tally.now) (g.T.Tally.of c.args.tally.now)
    (λ l. log_view (g.R.Recorder.told l) (g.R.Recorder.totals l) (g.R.Recorder.number l)) (Steal c.args.chunk) c.args.shared.now.gap) (g.T.Tally.monoid c.args.tally.now)
    (thief_station c.args.thief.now) c.requires.ready.fits_sum c.requires.ready.space)).1

pub loop-init : goal.loop-init
loop-init g c =
    let first = thief_station c.args.thief.now in
    let now = thief_station c.first_round.new.thief in (
      tt,
      tt,
      subst (λ items. IsWorking (searched (search_tree g.P.Problem c.args.problem.now) (g.T.Tally.join c.args.tally.now) (g.T.Tally.none c.args.tally.now) (g.T.Tally.of c.args.tally.now)
          (λ l. log_view (g.R.Recorder.told l) (g.R.Recorder.totals l) (g.R.Recorder.number l)) (Steal c.args.chunk) c.args.shared.now.gap) (paths_of items) first now) (sym c.new-gift.ensures.items)
          (goes-on (searched (search_tree g.P.Problem c.args.problem.now) (g.T.Tally.join c.args.tally.now) (g.T.Tally.none c.args.tally.now) (g.T.Tally.of c.args.tally.now)
          (λ l. log_view (g.R.Recorder.told l) (g.R.Recorder.totals l) (g.R.Recorder.number l)) (Steal c.args.chunk) c.args.shared.now.gap) [] first now c.first_round.result c.in_default.not-Ended
          (c.first_round.ensures.round first c.requires.ready.fits_sum (work-begins (searched (search_tree g.P.Problem c.args.problem.now) (g.T.Tally.join c.args.tally.now) (g.T.Tally.none c.args.tally.now) (g.T.Tally.of c.args.tally.now)
          (λ l. log_view (g.R.Recorder.told l) (g.R.Recorder.totals l) (g.R.Recorder.number l)) (Steal c.args.chunk) c.args.shared.now.gap) (g.T.Tally.monoid c.args.tally.now)
          (thief_station c.args.thief.now) c.requires.ready.fits_sum c.requires.ready.space))),
      subst (AllByRecursion (λ (task : Task _). IsTask g.P.Problem c.args.problem.now task.path.numbers task.node)) (sym c.new-gift.ensures.items) tt,
      c.first_round.ensures.problem ∙ c.requires.outlet,
      c.first_round.ensures.ask ∙ c.requires.ready.no_ask,
      c.first_round.ensures.fits,
    )

pub loop-preserved-in-On : goal.loop-preserved-in-On
loop-preserved-in-On g c =
    let e = c.in-On.ensures in
    (tt, tt, e.round (thief_station c.args.thief.now) c.requires.ready.fits_sum c.loop.invariant.2, e.gift, e.problem ∙ c.loop.invariant.4, e.no_ask, e.fits)

pub loop-preserved : goal.loop-preserved
loop-preserved g c =
    let e = c.in-Idle.ensures in
    (tt, tt, e.round (thief_station c.args.thief.now) c.requires.ready.fits_sum c.loop.invariant.2, e.gift, e.problem ∙ c.loop.invariant.4, e.no_ask, e.fits)

pub returns-in-Ended-next_round : goal.returns-in-Ended-next_round
returns-in-Ended-next_round g c =
    let e = c.in-Ended-next_round.ensures in
    let r = e.round (thief_station c.args.thief.now) c.requires.ready.fits_sum c.loop.invariant.2 in
    record { same = r.0; end = r.1; fits = e.fits }

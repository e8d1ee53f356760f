use Rattle.std.proofs.Common.{map, length, ◌∙◌, ◌≤◌, ◌<◌, ap, arith, subst}
use Rattle.std.proofs.lemmas.List.{length-map}
use Rattle.yew_laws.specs.SearchTree.{search_tree}
use Rattle.yew_walk.specs.LogViews.{log_view}
use Rattle.yew_ranked.specs.Tasks.{numbered_task}
use Rattle.yew_ranked.proofs.WorkerSteps.{work-begins, work-few}
use Rattle.yew_ranked.proofs.worker.ranked_worker.Goals as goal

pub loop-end-init : goal.loop-end-init
loop-end-init g c =
    let ready = c.requires.ready in
    record {
      fits = ready.fits_sum;
      working = work-begins (search_tree g.P.Problem c.args.problem.now) (g.T.Tally.join c.args.tally.now) (g.T.Tally.none c.args.tally.now) (g.T.Tally.of c.args.tally.now)
          (λ x. log_view (g.R.Recorder.told x) (g.R.Recorder.totals x) (g.R.Recorder.number x)) (map numbered_task c.args.shared.now.tasks.items)
          (g.T.Tally.monoid c.args.tally.now) c.args.station ready.fits_sum ready.space;
    }

pub take_turn-requires-clause-few : goal.take_turn-requires-clause-few
take_turn-requires-clause-few g c κs within =
    let few = work-few (search_tree g.P.Problem c.args.problem.now) (g.T.Tally.join c.args.tally.now) (g.T.Tally.none c.args.tally.now) (g.T.Tally.of c.args.tally.now)
    (λ x. log_view (g.R.Recorder.told x) (g.R.Recorder.totals x) (g.R.Recorder.number x)) (map numbered_task c.args.shared.now.tasks.items)
    c.args.station c.loop-end.station c.loop-end.invariant.working c.requires.ready.none_claimed in
    omega (arith, few, length-map c.args.shared.now.tasks.items numbered_task, c.requires.few)

pub loop-end-smaller : goal.loop-end-smaller
loop-end-smaller g c =
    let few = work-few (search_tree g.P.Problem c.args.problem.now) (g.T.Tally.join c.args.tally.now) (g.T.Tally.none c.args.tally.now) (g.T.Tally.of c.args.tally.now)
    (λ x. log_view (g.R.Recorder.told x) (g.R.Recorder.totals x) (g.R.Recorder.number x)) (map numbered_task c.args.shared.now.tasks.items)
    c.args.station c.take_turn.new.station (c.in-Walked.ensures.turned c.args.station c.requires.ready.fits_sum c.loop-end.invariant.working) c.requires.ready.none_claimed in
    omega (arith, few, length-map c.args.shared.now.tasks.items numbered_task, c.in-Walked.ensures.more)

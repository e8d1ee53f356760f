use Rattle.std.proofs.Common.{◌≤◌, sym, subst, ◌∙◌, arith}
use Rattle.yew_laws.specs.SearchTree.{search_tree}
use Rattle.yew_stack.specs.Splits.{paths_of}
use Rattle.yew_walk.specs.LogViews.{log_view}
use Rattle.yew_crew.specs.Gathering.{IsGathered}
use Rattle.yew_crew.specs.Resting.{IsRested, IsRestRefused}
use Rattle.yew_crew.specs.Stations.{searched}
use Rattle.yew_crew.specs.declared.coord.Coord.TheVariants.{Depth}
use Rattle.yew_crew.proofs.FoundTogether.{over-found, over-refused}
use Rattle.yew_crew.proofs.SettledCrew.{seat-of, seat-whole, first-hand, first-log, hands-after, logs-after, hands-fit, left-sound, is-over, settled-fault, first-space}
use Rattle.yew_crew.proofs.ending.end_crew.Goals as goal

pub returns-in-Some-clause-fault : goal.returns-in-Some-clause-fault
returns-in-Some-clause-fault g c =
    settled-fault (search_tree g.P.Problem c.args.problem.now) (g.T.Tally.join c.args.tally.now) (g.T.Tally.none c.args.tally.now) (g.T.Tally.of c.args.tally.now) (λ l. log_view (g.R.Recorder.told l) (g.R.Recorder.totals l) (g.R.Recorder.number l))
    c.args.coord c.args.worked.shared.gap (g.T.Tally.fits c.args.tally.now) c.args.worked.shared c.args.workers c.args.worked.reports.items c.requires.worked
    c.in_ok-best.field-0 c.in_ok-best.ensures.settled
    (g.P.Problem.ranked c.args.problem.now) (g.P.Problem.bounded c.args.problem.now) c.requires.root _ c.in-Some.fault c.in-Some.is (λ log told. (log, told))

pub walk_rest-requires-clause-seat : goal.walk_rest-requires-clause-seat
walk_rest-requires-clause-seat g c κs within =
    seat-of (search_tree g.P.Problem c.args.problem.now) (g.T.Tally.join c.args.tally.now) (g.T.Tally.none c.args.tally.now) (g.T.Tally.of c.args.tally.now) (λ l. log_view (g.R.Recorder.told l) (g.R.Recorder.totals l) (g.R.Recorder.number l))
    c.args.coord c.args.worked.shared.gap (g.T.Tally.fits c.args.tally.now) c.args.worked.shared c.args.workers c.args.worked.reports.items c.requires.worked
    c.in_ok-best.field-0 c.in_ok-best.ensures.settled

pub walk_rest-requires-clause-space : goal.walk_rest-requires-clause-space
walk_rest-requires-clause-space g c κs within =
    subst (λ h. 65535 ≤ h.path.space) (sym (first-hand (search_tree g.P.Problem c.args.problem.now) (g.T.Tally.join c.args.tally.now) (g.T.Tally.none c.args.tally.now) (g.T.Tally.of c.args.tally.now) (λ l. log_view (g.R.Recorder.told l) (g.R.Recorder.totals l) (g.R.Recorder.number l))
    c.args.coord c.args.worked.shared.gap (g.T.Tally.fits c.args.tally.now) c.args.worked.shared c.args.workers c.args.worked.reports.items c.requires.worked
    c.in_ok-best.field-0 c.in_ok-best.ensures.settled
    c.index_mut.result.now c.index_mut.ensures.value))
    (first-space (search_tree g.P.Problem c.args.problem.now) (g.T.Tally.join c.args.tally.now) (g.T.Tally.none c.args.tally.now) (g.T.Tally.of c.args.tally.now) (λ l. log_view (g.R.Recorder.told l) (g.R.Recorder.totals l) (g.R.Recorder.number l))
    c.args.coord c.args.worked.shared.gap (g.T.Tally.fits c.args.tally.now) c.args.worked.shared c.args.workers c.args.worked.reports.items c.requires.worked
    c.in_ok-best.field-0 c.in_ok-best.ensures.settled
    (g.P.Problem.ranked c.args.problem.now) (g.P.Problem.bounded c.args.problem.now) c.requires.root (g.T.Tally.monoid c.args.tally.now) (g.T.Tally.of_fits c.args.tally.now) c.in_default.is (let few = c.in_ok-best.field-0.left.ok in omega (arith, few.0, c.in_ok-best.field-0.left.small)))

pub walk_rest-requires-clause-tasks : goal.walk_rest-requires-clause-tasks
walk_rest-requires-clause-tasks g c κs within =
    left-sound (search_tree g.P.Problem c.args.problem.now) (g.T.Tally.join c.args.tally.now) (g.T.Tally.none c.args.tally.now) (g.T.Tally.of c.args.tally.now) (λ l. log_view (g.R.Recorder.told l) (g.R.Recorder.totals l) (g.R.Recorder.number l))
    c.args.coord c.args.worked.shared.gap (g.T.Tally.fits c.args.tally.now) c.args.worked.shared c.args.workers c.args.worked.reports.items c.requires.worked
    c.in_ok-best.field-0 c.in_ok-best.ensures.settled

pub returns-in-Err-clause-fault : goal.returns-in-Err-clause-fault
returns-in-Err-clause-fault g c =
    let is = c.in_ok-best.ensures.settled in
    let s = (searched (search_tree g.P.Problem c.args.problem.now) (g.T.Tally.join c.args.tally.now) (g.T.Tally.none c.args.tally.now) (g.T.Tally.of c.args.tally.now)
    (λ l. log_view (g.R.Recorder.told l) (g.R.Recorder.totals l) (g.R.Recorder.number l)) (Depth 0) c.args.worked.shared.gap) in
    let paths = paths_of c.in_ok-best.field-0.left.items in
    over-refused (search_tree g.P.Problem c.args.problem.now) (g.T.Tally.join c.args.tally.now) (g.T.Tally.none c.args.tally.now) (g.T.Tally.of c.args.tally.now) (λ l. log_view (g.R.Recorder.told l) (g.R.Recorder.totals l) (g.R.Recorder.number l))
    c.args.coord c.args.worked.shared.gap
    c.args.worked.shared c.args.workers c.requires.worked.begun is.first is.rest c.in_ok-best.field-0.left.items is.word
    (is-over (search_tree g.P.Problem c.args.problem.now) (g.T.Tally.join c.args.tally.now) (g.T.Tally.none c.args.tally.now) (g.T.Tally.of c.args.tally.now) (λ l. log_view (g.R.Recorder.told l) (g.R.Recorder.totals l) (g.R.Recorder.number l))
    c.args.coord c.args.worked.shared.gap (g.T.Tally.fits c.args.tally.now) c.args.worked.shared c.args.workers c.args.worked.reports.items c.requires.worked
    c.in_ok-best.field-0 c.in_ok-best.ensures.settled c.in_default.is (let few = c.in_ok-best.field-0.left.ok in omega (arith, few.0, c.in_ok-best.field-0.left.small)))
    (g.P.Problem.ranked c.args.problem.now) (g.P.Problem.bounded c.args.problem.now) c.requires.root (g.T.Tally.monoid c.args.tally.now) (g.T.Tally.of_fits c.args.tally.now) _ c.in-Err.fault c.walk_rest.new.seat c.walk_rest.new.log
    (subst (λ v. IsRestRefused s paths c.in-Err.fault v is.first.station.log c.walk_rest.new.seat c.walk_rest.new.log) is.seat_is
    (subst (λ l. IsRestRefused s paths c.in-Err.fault c.in_ok-best.field-0.seat l c.walk_rest.new.seat c.walk_rest.new.log)
    (first-log (search_tree g.P.Problem c.args.problem.now) (g.T.Tally.join c.args.tally.now) (g.T.Tally.none c.args.tally.now) (g.T.Tally.of c.args.tally.now) (λ l. log_view (g.R.Recorder.told l) (g.R.Recorder.totals l) (g.R.Recorder.number l))
    c.args.coord c.args.worked.shared.gap (g.T.Tally.fits c.args.tally.now) c.args.worked.shared c.args.workers c.args.worked.reports.items c.requires.worked
    c.in_ok-best.field-0 c.in_ok-best.ensures.settled
    c.index_mut-2.result.now c.index_mut-2.ensures.value) c.in-Err.ensures.refused))
    (λ told. (c.walk_rest.new.log, told))

pub close-requires-clause-best : goal.close-requires-clause-best
close-requires-clause-best g c = c.in-Ok.ensures.best
    ∙ seat-of (search_tree g.P.Problem c.args.problem.now) (g.T.Tally.join c.args.tally.now) (g.T.Tally.none c.args.tally.now) (g.T.Tally.of c.args.tally.now) (λ l. log_view (g.R.Recorder.told l) (g.R.Recorder.totals l) (g.R.Recorder.number l))
    c.args.coord c.args.worked.shared.gap (g.T.Tally.fits c.args.tally.now) c.args.worked.shared c.args.workers c.args.worked.reports.items c.requires.worked
    c.in_ok-best.field-0 c.in_ok-best.ensures.settled

pub close-requires-clause-whole : goal.close-requires-clause-whole
close-requires-clause-whole g c = c.in-Ok.ensures.share
    ∙ seat-whole (search_tree g.P.Problem c.args.problem.now) (g.T.Tally.join c.args.tally.now) (g.T.Tally.none c.args.tally.now) (g.T.Tally.of c.args.tally.now) (λ l. log_view (g.R.Recorder.told l) (g.R.Recorder.totals l) (g.R.Recorder.number l))
    c.args.coord c.args.worked.shared.gap (g.T.Tally.fits c.args.tally.now) c.args.worked.shared c.args.workers c.args.worked.reports.items c.requires.worked
    c.in_ok-best.field-0 c.in_ok-best.ensures.settled

pub gather-hand-requires-clause-fits : goal.gather-hand-requires-clause-fits
gather-hand-requires-clause-fits g c κs within =
    hands-fit (search_tree g.P.Problem c.args.problem.now) (g.T.Tally.join c.args.tally.now) (g.T.Tally.none c.args.tally.now) (g.T.Tally.of c.args.tally.now) (λ l. log_view (g.R.Recorder.told l) (g.R.Recorder.totals l) (g.R.Recorder.number l))
    c.args.coord c.args.worked.shared.gap (g.T.Tally.fits c.args.tally.now) c.args.worked.shared c.args.workers c.args.worked.reports.items c.requires.worked
    c.in_ok-best.field-0 c.in_ok-best.ensures.settled
    c.walk_rest.new.hand c.in-Ok.ensures.fits

pub returns-clause-found : goal.returns-clause-found
returns-clause-found g c =
    let is = c.in_ok-best.ensures.settled in
    let s = (searched (search_tree g.P.Problem c.args.problem.now) (g.T.Tally.join c.args.tally.now) (g.T.Tally.none c.args.tally.now) (g.T.Tally.of c.args.tally.now)
    (λ l. log_view (g.R.Recorder.told l) (g.R.Recorder.totals l) (g.R.Recorder.number l)) (Depth 0) c.args.worked.shared.gap) in
    let paths = paths_of c.in_ok-best.field-0.left.items in
    let seat = c.walk_rest.new.seat in let hand = c.walk_rest.new.hand in let log = c.walk_rest.new.log in
    over-found (search_tree g.P.Problem c.args.problem.now) (g.T.Tally.join c.args.tally.now) (g.T.Tally.none c.args.tally.now) (g.T.Tally.of c.args.tally.now) (λ l. log_view (g.R.Recorder.told l) (g.R.Recorder.totals l) (g.R.Recorder.number l))
    c.args.coord c.args.worked.shared.gap
    c.args.worked.shared c.args.workers c.requires.worked.begun is.first is.rest c.in_ok-best.field-0.left.items is.word
    (is-over (search_tree g.P.Problem c.args.problem.now) (g.T.Tally.join c.args.tally.now) (g.T.Tally.none c.args.tally.now) (g.T.Tally.of c.args.tally.now) (λ l. log_view (g.R.Recorder.told l) (g.R.Recorder.totals l) (g.R.Recorder.number l))
    c.args.coord c.args.worked.shared.gap (g.T.Tally.fits c.args.tally.now) c.args.worked.shared c.args.workers c.args.worked.reports.items c.requires.worked
    c.in_ok-best.field-0 c.in_ok-best.ensures.settled c.in_default.is (let few = c.in_ok-best.field-0.left.ok in omega (arith, few.0, c.in_ok-best.field-0.left.small)))
    (g.P.Problem.ranked c.args.problem.now) (g.P.Problem.bounded c.args.problem.now) c.requires.root (g.T.Tally.monoid c.args.tally.now) (g.T.Tally.of_fits c.args.tally.now) seat hand log
    (subst (λ v. IsRested s paths v is.first.station.hand is.first.station.log seat hand log) is.seat_is
    (subst (λ h. IsRested s paths c.in_ok-best.field-0.seat h is.first.station.log seat hand log)
    (first-hand (search_tree g.P.Problem c.args.problem.now) (g.T.Tally.join c.args.tally.now) (g.T.Tally.none c.args.tally.now) (g.T.Tally.of c.args.tally.now) (λ l. log_view (g.R.Recorder.told l) (g.R.Recorder.totals l) (g.R.Recorder.number l))
    c.args.coord c.args.worked.shared.gap (g.T.Tally.fits c.args.tally.now) c.args.worked.shared c.args.workers c.args.worked.reports.items c.requires.worked
    c.in_ok-best.field-0 c.in_ok-best.ensures.settled
    c.index_mut.result.now c.index_mut.ensures.value)
    (subst (λ l. IsRested s paths c.in_ok-best.field-0.seat c.index_mut.result.now l seat hand log)
    (first-log (search_tree g.P.Problem c.args.problem.now) (g.T.Tally.join c.args.tally.now) (g.T.Tally.none c.args.tally.now) (g.T.Tally.of c.args.tally.now) (λ l. log_view (g.R.Recorder.told l) (g.R.Recorder.totals l) (g.R.Recorder.number l))
    c.args.coord c.args.worked.shared.gap (g.T.Tally.fits c.args.tally.now) c.args.worked.shared c.args.workers c.args.worked.reports.items c.requires.worked
    c.in_ok-best.field-0 c.in_ok-best.ensures.settled
    c.index_mut-2.result.now c.index_mut-2.ensures.value) c.in-Ok.ensures.ok)))
    c.close.ensures.reads_offered c.gather-hand.result _
    (subst (λ hands. IsGathered (g.T.Tally.join c.args.tally.now) (g.T.Tally.none c.args.tally.now) hands c.gather-hand.result)
    (hands-after (search_tree g.P.Problem c.args.problem.now) (g.T.Tally.join c.args.tally.now) (g.T.Tally.none c.args.tally.now) (g.T.Tally.of c.args.tally.now) (λ l. log_view (g.R.Recorder.told l) (g.R.Recorder.totals l) (g.R.Recorder.number l))
    c.args.coord c.args.worked.shared.gap (g.T.Tally.fits c.args.tally.now) c.args.worked.shared c.args.workers c.args.worked.reports.items c.requires.worked
    c.in_ok-best.field-0 c.in_ok-best.ensures.settled hand) c.gather-hand.ensures.gathered)
    (logs-after (search_tree g.P.Problem c.args.problem.now) (g.T.Tally.join c.args.tally.now) (g.T.Tally.none c.args.tally.now) (g.T.Tally.of c.args.tally.now) (λ l. log_view (g.R.Recorder.told l) (g.R.Recorder.totals l) (g.R.Recorder.number l))
    c.args.coord c.args.worked.shared.gap (g.T.Tally.fits c.args.tally.now) c.args.worked.shared c.args.workers c.args.worked.reports.items c.requires.worked
    c.in_ok-best.field-0 c.in_ok-best.ensures.settled log)

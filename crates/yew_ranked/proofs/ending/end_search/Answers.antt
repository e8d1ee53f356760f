use Rattle.std.proofs.Common.{◌≡◌, ◌∙◌, sym, subst, map}
use Rattle.yew_crew.specs.Gathering.{IsGathered}
use Rattle.yew_laws.specs.SearchTree.{search_tree}
use Rattle.yew_walk.specs.LogViews.{log_view}
use Rattle.yew_ranked.specs.Tasks.{numbered_task}
use Rattle.yew_ranked.proofs.SettledParts.{has-worked, settled-done, settled-fits, some-hands}
use Rattle.yew_ranked.proofs.ending.end_search.Goals as goal

pub returns-in-Some-clause-fault : goal.returns-in-Some-clause-fault
returns-in-Some-clause-fault g c =
    let tally = c.args.tally.now in
    c.faults_are_ordered.ensures c.args.depth c.args.workers (map numbered_task c.args.worked.shared.tasks.items) c.args.worked.reports.items c.in-Some.fault c.requires.depth
    (has-worked (search_tree g.P.Problem c.args.problem.now) (g.T.Tally.join tally) (g.T.Tally.none tally) (g.T.Tally.of tally) (λ l. log_view (g.R.Recorder.told l) (g.R.Recorder.totals l) (g.R.Recorder.number l))
    (g.T.Tally.fits tally) c.args.depth c.args.workers c.args.worked.shared c.args.worked.reports.items c.requires.worked)
    (sym c.in_ok-hands.ensures.settled.fault ∙ c.in-Some.is)

pub gather-hand-requires-clause-some : goal.gather-hand-requires-clause-some
gather-hand-requires-clause-some g c κs within =
    let tally = c.args.tally.now in
    some-hands (search_tree g.P.Problem c.args.problem.now) (g.T.Tally.join tally) (g.T.Tally.none tally) (g.T.Tally.of tally) (λ l. log_view (g.R.Recorder.told l) (g.R.Recorder.totals l) (g.R.Recorder.number l))
    (g.T.Tally.fits tally) c.args.depth c.args.workers c.args.worked.shared c.args.worked.reports.items c.requires.worked c.in_ok-hands.field-0 c.in_ok-hands.ensures.settled

pub gather-hand-requires-clause-fits : goal.gather-hand-requires-clause-fits
gather-hand-requires-clause-fits g c κs within =
    let tally = c.args.tally.now in
    settled-fits (search_tree g.P.Problem c.args.problem.now) (g.T.Tally.join tally) (g.T.Tally.none tally) (g.T.Tally.of tally) (λ l. log_view (g.R.Recorder.told l) (g.R.Recorder.totals l) (g.R.Recorder.number l))
    (g.T.Tally.fits tally) c.args.depth c.args.workers c.args.worked.shared c.args.worked.reports.items c.requires.worked c.in_ok-hands.field-0 c.in_ok-hands.ensures.settled

pub returns-clause-found : goal.returns-clause-found
returns-clause-found g c =
    let tally = c.args.tally.now in
    let is = c.in_ok-hands.ensures.settled in
    c.parts_are_whole.ensures c.args.depth c.args.workers (map numbered_task c.args.worked.shared.tasks.items) c.args.worked.reports.items c.gather-hand.result c.in_ok-hands.field-0.logs.items c.requires.depth
    (has-worked (search_tree g.P.Problem c.args.problem.now) (g.T.Tally.join tally) (g.T.Tally.none tally) (g.T.Tally.of tally) (λ l. log_view (g.R.Recorder.told l) (g.R.Recorder.totals l) (g.R.Recorder.number l))
    (g.T.Tally.fits tally) c.args.depth c.args.workers c.args.worked.shared c.args.worked.reports.items c.requires.worked)
    (settled-done (search_tree g.P.Problem c.args.problem.now) (g.T.Tally.join tally) (g.T.Tally.none tally) (g.T.Tally.of tally) (λ l. log_view (g.R.Recorder.told l) (g.R.Recorder.totals l) (g.R.Recorder.number l))
    (g.T.Tally.fits tally) c.args.depth c.args.workers c.args.worked.shared c.args.worked.reports.items c.requires.worked c.in_ok-hands.field-0 is c.in_default.is)
    is.seats
    (subst (λ hands. IsGathered (g.T.Tally.join tally) (g.T.Tally.none tally) hands c.gather-hand.result) is.hands c.gather-hand.ensures.gathered)
    is.logs c.requires.worked.fit

use Rattle.std.proofs.Common.{rules, arith, sym, subst, slice_index_or, map}
use denote.Param.Send.{sendable}
use Rattle.yew_crew.proofs.Rows.{all_at, all_from}
use Rattle.yew_laws.specs.SearchTree.{search_tree}
use Rattle.yew_walk.specs.LogViews.{LogView, log_view}
use Rattle.yew_ranked.specs.Stations.{IsRankedReady, IsRankedReport}
use Rattle.yew_ranked.specs.Tasks.{numbered_task}
use Rattle.yew_ranked.specs.declared.station.RankedReport.{RankedReport}
use Rattle.yew_ranked.proofs.Sharing.{are-ranked_reports}
use Rattle.yew_ranked.proofs.starting.start.Goals as goal

pub map_vec-requires-after_bounds : goal.map_vec-requires-after_bounds
map_vec-requires-after_bounds g c κs within = λ i x h e.
    let b = c.type_bounds in
    let r = c.requires in (
      (record { shared = b.sync-H.shared }, r.root, r.tasks, r.few, all_at (IsRankedReady (g.T.Tally.fits c.args.tally.now) c.args.shared.now) c.args.stations.items i x r.ready h e),
      (
        (let sends = b.send-R in search sendable depth 20),
        (let sends = b.send-P-Node in search sendable depth 20),
        (let sends = b.send-P-Kids in search sendable depth 20),
        (let sends = b.send-T-Sum in search sendable depth 20),
        record { shared = b.sync-P.shared },
        record { shared = b.sync-T.shared },
        record { shared = b.sync-G.shared },
        record { shared = b.sync-H.shared },
      ),
    )

pub returns-clause-reports : goal.returns-clause-reports
returns-clause-reports g c = λ depth.
    let tally = c.args.tally.now in
    let seen : g.row.R.Denot → LogView = λ log. log_view (g.R.Recorder.told log) (g.R.Recorder.totals log) (g.R.Recorder.number log) in
    let t = search_tree g.P.Problem c.args.problem.now in
    let tasks = map numbered_task c.args.shared.now.tasks.items in
    are-ranked_reports t (g.T.Tally.join tally) (g.T.Tally.none tally) (g.T.Tally.of tally) seen depth tasks _ _ (search rules) (λ i d e h.
    let job = (c.in_ok-reports.ensures.each i e h).1 in
    subst (λ b. IsRankedReport t (g.T.Tally.join tally) (g.T.Tally.none tally) (g.T.Tally.of tally) seen tasks b (slice_index_or c.in_ok-reports.reports.items i e)) (sym (job.job_is d)) job.call.met.0)

pub returns-clause-fits : goal.returns-clause-fits
returns-clause-fits g c = all_from (λ (r : RankedReport g.row.T-Sum.Denot g.row.R.Denot). g.T.Tally.fits c.args.tally.now r.station.hand.sum) c.in_ok-reports.reports.items
    (λ i e h. (let n = c.in_ok-reports.ensures.len in (c.in_ok-reports.ensures.each i e (omega arith)).1).call.met.1)

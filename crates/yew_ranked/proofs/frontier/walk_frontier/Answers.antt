use Rattle.std.proofs.Common.{[], ◌∷◌, map, refl, ap, arith}
use Rattle.yew_laws.specs.SearchTree.{search_tree}
use Rattle.yew_log.specs.Notes.{taken}
use Rattle.yew_walk.specs.LogViews.{log_view}
use Rattle.yew_ranked.specs.FrontierStates.{frontier_state}
use Rattle.yew_ranked.specs.Tasks.{numbered_task}
use Rattle.yew_ranked.proofs.FrontierEnds.{so_far-start, so_far-walked, tasks-there, taken-fault, levels-fault}
use Rattle.yew_ranked.proofs.frontier.walk_frontier.Goals as goal

pub returns-in-Err-clause-fault : goal.returns-in-Err-clause-fault
returns-in-Err-clause-fault g c =
    taken-fault (search_tree g.P.Problem c.args.problem.now) c.args.depth c.requires.depth.0 c.in_ok-empty.field-0.numbers _ _ c.in-Err.fault c.in_ok-empty.ensures.numbers c.in-Err.ensures.err c.in-Err.ensures.cause

pub returns-in-Ok-walk_levels-clause-walked : goal.returns-in-Ok-walk_levels-clause-walked
returns-in-Ok-walk_levels-clause-walked g c =
    let problem = c.args.problem.now in
    let tally = c.args.tally.now in
    let tree = search_tree g.P.Problem problem in
    let begun = log_view (g.R.Recorder.told c.args.log.now) (g.R.Recorder.totals c.args.log.now) (g.R.Recorder.number c.args.log.now) in
    let start = so_far-start tree (g.T.Tally.join tally) (g.T.Tally.none tally) (g.T.Tally.of tally) begun (frontier_state c.args.seat.now c.args.hand.now (log_view (g.R.Recorder.told c.note.new.log)
    (g.R.Recorder.totals c.note.new.log) (g.R.Recorder.number c.note.new.log)) 0 (map numbered_task c.new.result.items))
    (rw c.in_ok-empty.ensures.numbers at c.in-Ok.ensures.ok) c.requires.none_offered c.requires.sum c.requires.holds refl (ap (map numbered_task) c.new.ensures.items) in
    let so_far = (rw (c.in_ok-empty.ensures.numbers, c.in_ok-node.ensures) at c.in-Ok-walk_levels.ensures.ok) begun (taken [] ∷ []) start tt in
    let now = frontier_state c.walk_levels.new.seat c.walk_levels.new.hand (log_view (g.R.Recorder.told c.walk_levels.new.log) (g.R.Recorder.totals c.walk_levels.new.log)
    (g.R.Recorder.number c.walk_levels.new.log)) c.walk_levels.new.frontier.next (map numbered_task c.walk_levels.new.frontier.tasks.items) in
    so_far-walked tree c.args.depth c.requires.depth.0 (g.T.Tally.join tally) (g.T.Tally.none tally) (g.T.Tally.of tally) begun c.args.seat.now now so_far c.requires.none_offered
    c.in-Ok-walk_levels.ensures.best c.in-Ok-walk_levels.ensures.share (omega (arith, c.requires.space, c.in-Ok-walk_levels.ensures.space))

pub returns-in-Ok-walk_levels-clause-log : goal.returns-in-Ok-walk_levels-clause-log
returns-in-Ok-walk_levels-clause-log g c =
    let problem = c.args.problem.now in
    let tally = c.args.tally.now in
    let tree = search_tree g.P.Problem problem in
    let begun = log_view (g.R.Recorder.told c.args.log.now) (g.R.Recorder.totals c.args.log.now) (g.R.Recorder.number c.args.log.now) in
    let start = so_far-start tree (g.T.Tally.join tally) (g.T.Tally.none tally) (g.T.Tally.of tally) begun (frontier_state c.args.seat.now c.args.hand.now (log_view (g.R.Recorder.told c.note.new.log)
    (g.R.Recorder.totals c.note.new.log) (g.R.Recorder.number c.note.new.log)) 0 (map numbered_task c.new.result.items))
    (rw c.in_ok-empty.ensures.numbers at c.in-Ok.ensures.ok) c.requires.none_offered c.requires.sum c.requires.holds refl (ap (map numbered_task) c.new.ensures.items) in
    let so_far = (rw (c.in_ok-empty.ensures.numbers, c.in_ok-node.ensures) at c.in-Ok-walk_levels.ensures.ok) begun (taken [] ∷ []) start tt in
    so_far.log_is

pub returns-in-Ok-walk_levels-clause-there : goal.returns-in-Ok-walk_levels-clause-there
returns-in-Ok-walk_levels-clause-there g c =
    let problem = c.args.problem.now in
    let tally = c.args.tally.now in
    let tree = search_tree g.P.Problem problem in
    let begun = log_view (g.R.Recorder.told c.args.log.now) (g.R.Recorder.totals c.args.log.now) (g.R.Recorder.number c.args.log.now) in
    let start = so_far-start tree (g.T.Tally.join tally) (g.T.Tally.none tally) (g.T.Tally.of tally) begun (frontier_state c.args.seat.now c.args.hand.now (log_view (g.R.Recorder.told c.note.new.log)
    (g.R.Recorder.totals c.note.new.log) (g.R.Recorder.number c.note.new.log)) 0 (map numbered_task c.new.result.items))
    (rw c.in_ok-empty.ensures.numbers at c.in-Ok.ensures.ok) c.requires.none_offered c.requires.sum c.requires.holds refl (ap (map numbered_task) c.new.ensures.items) in
    let so_far = (rw (c.in_ok-empty.ensures.numbers, c.in_ok-node.ensures) at c.in-Ok-walk_levels.ensures.ok) begun (taken [] ∷ []) start tt in
    tasks-there tree c.walk_levels.new.frontier.tasks.items so_far.tasks_there

pub returns-in-Err-walk_levels-clause-fault : goal.returns-in-Err-walk_levels-clause-fault
returns-in-Err-walk_levels-clause-fault g c =
    let problem = c.args.problem.now in
    let tally = c.args.tally.now in
    let tree = search_tree g.P.Problem problem in
    let begun = log_view (g.R.Recorder.told c.args.log.now) (g.R.Recorder.totals c.args.log.now) (g.R.Recorder.number c.args.log.now) in
    let start = so_far-start tree (g.T.Tally.join tally) (g.T.Tally.none tally) (g.T.Tally.of tally) begun (frontier_state c.args.seat.now c.args.hand.now (log_view (g.R.Recorder.told c.note.new.log)
    (g.R.Recorder.totals c.note.new.log) (g.R.Recorder.number c.note.new.log)) 0 (map numbered_task c.new.result.items))
    (rw c.in_ok-empty.ensures.numbers at c.in-Ok.ensures.ok) c.requires.none_offered c.requires.sum c.requires.holds refl (ap (map numbered_task) c.new.ensures.items) in
    levels-fault tree c.args.depth c.requires.depth.0 begun (log_view (g.R.Recorder.told c.note.new.log) (g.R.Recorder.totals c.note.new.log) (g.R.Recorder.number c.note.new.log)) (log_view
    (g.R.Recorder.told c.walk_levels.new.log) (g.R.Recorder.totals c.walk_levels.new.log) (g.R.Recorder.number c.walk_levels.new.log)) c.in-Err-walk_levels.fault (rw c.in_ok-empty.ensures.numbers at c.in-Ok.ensures.ok)
    ((rw (c.in_ok-empty.ensures.numbers, c.in_ok-node.ensures) at c.in-Err-walk_levels.ensures.err) begun (taken [] ∷ []) start tt)

use Rattle.std.proofs.Common.{ℕ, ◌+◌, List, map, length, refl, ap, sym, ◌∙◌, arith}
use Rattle.yew_best.specs.Seats.{BestId}
use Rattle.yew_laws.proofs.Trees.{node_at-rank}
use Rattle.yew_walk.specs.LogViews.{log_view}
use Rattle.yew_ranked.specs.FrontierStates.{frontier_state}
use Rattle.yew_ranked.specs.Tasks.{numbered_task}
use Rattle.yew_ranked.proofs.FrontierEnters.{enters-visit, enters-cut, enters-visit-refused, enters-cut-refused, enters-past}
use Rattle.yew_ranked.proofs.frontier.enter.Goals as goal

pub returns-in-Err-note-2-clause-err : goal.returns-in-Err-note-2-clause-err
returns-in-Err-note-2-clause-err g c = λ begun notes levels w after.
    let t = c.args.tally.now in
    let old = frontier_state c.args.seat.now c.args.hand.now (log_view (g.R.Recorder.told c.args.log.now) (g.R.Recorder.totals c.args.log.now) (g.R.Recorder.number c.args.log.now)) c.args.frontier.now.next
    (map numbered_task c.args.frontier.now.tasks.items) in
    let whole = c.requires.whole ∙ sym (ap (λ (b : BestId). b.seats) c.requires.best) in
    enters-visit-refused g.P.Problem c.args.problem.now (g.T.Tally.join t) (g.T.Tally.none t) (g.T.Tally.of t) begun notes old c.judge_item.new.seat _ levels c.args.frontier.now.path.numbers c.args.node.now
    c.in-Ok-Visit.worth c.in-Ok-Visit.read c.in-Err-note-2.fault
    whole (rw c.in-Ok-Visit.field-0-is at c.in-Ok-Visit.ensures.ok) c.in-Err-note-2.ensures.err c.in-Err-note-2.ensures.cause w after

pub overflow_cast-depth : goal.overflow_cast-depth
overflow_cast-depth g c =
    let meaning = g.P.Problem in
    let problem = c.args.problem.now in
    omega (
      arith,
      ap length c.numbers.ensures.value,
      node_at-rank (meaning.ranked problem) c.args.frontier.now.path.numbers (meaning.root problem) c.args.node.now c.requires.root c.requires.task.found,
      meaning.root_rank problem c.requires.root,
    )

pub keep-requires-clause-space : goal.keep-requires-clause-space
keep-requires-clause-space g c =
    let meaning = g.P.Problem in
    let problem = c.args.problem.now in
    omega (arith, node_at-rank (meaning.ranked problem) c.args.frontier.now.path.numbers (meaning.root problem) c.args.node.now c.requires.root c.requires.task.found, meaning.root_rank problem c.requires.root, c.requires.space)

pub returns-in-Ok-clause-ok : goal.returns-in-Ok-clause-ok
returns-in-Ok-clause-ok g c = λ begun notes w after.
    let t = c.args.tally.now in
    let old = frontier_state c.args.seat.now c.args.hand.now (log_view (g.R.Recorder.told c.args.log.now) (g.R.Recorder.totals c.args.log.now) (g.R.Recorder.number c.args.log.now)) c.args.frontier.now.next
    (map numbered_task c.args.frontier.now.tasks.items) in
    let whole = c.requires.whole ∙ sym (ap (λ (b : BestId). b.seats) c.requires.best) in
    let now = frontier_state c.judge_item.new.seat c.args.hand.now (log_view (g.R.Recorder.told c.note.new.log) (g.R.Recorder.totals c.note.new.log) (g.R.Recorder.number c.note.new.log)) c.args.frontier.now.next
    (map numbered_task c.args.frontier.now.tasks.items) in
    enters-cut g.P.Problem c.args.problem.now (g.T.Tally.join t) (g.T.Tally.none t) (g.T.Tally.of t) begun notes old now c.args.frontier.now.path.numbers c.args.node.now c.in-Ok-Cut.bound c.in-Ok-Cut.read
    whole (rw c.in-Ok-Cut.field-0-is at c.in-Ok-Cut.ensures.ok) c.in-Ok.ensures.ok refl refl refl w after

pub returns-in-Err-note-clause-err : goal.returns-in-Err-note-clause-err
returns-in-Err-note-clause-err g c = λ begun notes levels w after.
    let t = c.args.tally.now in
    let old = frontier_state c.args.seat.now c.args.hand.now (log_view (g.R.Recorder.told c.args.log.now) (g.R.Recorder.totals c.args.log.now) (g.R.Recorder.number c.args.log.now)) c.args.frontier.now.next
    (map numbered_task c.args.frontier.now.tasks.items) in
    let whole = c.requires.whole ∙ sym (ap (λ (b : BestId). b.seats) c.requires.best) in
    enters-cut-refused g.P.Problem c.args.problem.now (g.T.Tally.join t) (g.T.Tally.none t) (g.T.Tally.of t) begun notes old c.judge_item.new.seat _ levels c.args.frontier.now.path.numbers c.args.node.now
    c.in-Ok-Cut.bound c.in-Ok-Cut.read c.in-Err-note.fault
    whole (rw c.in-Ok-Cut.field-0-is at c.in-Ok-Cut.ensures.ok) c.in-Err-note.ensures.err c.in-Err-note.ensures.cause w after

pub returns-in-Ok-note-clause-ok : goal.returns-in-Ok-note-clause-ok
returns-in-Ok-note-clause-ok g c = λ begun notes w after.
    let t = c.args.tally.now in
    let old = frontier_state c.args.seat.now c.args.hand.now (log_view (g.R.Recorder.told c.args.log.now) (g.R.Recorder.totals c.args.log.now) (g.R.Recorder.number c.args.log.now)) c.args.frontier.now.next
    (map numbered_task c.args.frontier.now.tasks.items) in
    let whole = c.requires.whole ∙ sym (ap (λ (b : BestId). b.seats) c.requires.best) in
    let next = c.args.frontier.now.next in
    let now = frontier_state c.judge_item.new.seat c.keep.new.self (log_view (g.R.Recorder.told c.note-in-Ok-Visit.new.log) (g.R.Recorder.totals c.note-in-Ok-Visit.new.log)
    (g.R.Recorder.number c.note-in-Ok-Visit.new.log)) (next + 1) (map numbered_task c.args.frontier.now.tasks.items) in
    enters-visit g.P.Problem c.args.problem.now (g.T.Tally.join t) (g.T.Tally.none t) (g.T.Tally.of t) (g.T.Tally.monoid t) (g.T.Tally.of_fits t) begun notes old now c.args.frontier.now.path.numbers c.args.node.now
    c.in-Ok-Visit.worth c.in-Ok-Visit.read
    whole c.requires.task.found (rw c.in-Ok-Visit.field-0-is at c.in-Ok-Visit.ensures.numbered) (rw c.in-Ok-Visit.field-0-is at c.in-Ok-Visit.ensures.ok) c.in-Ok-note.ensures.ok (omega arith) refl
    (c.keep.ensures.sum ∙ (c.note-in-Ok-Visit-2.ensures ∙ ap (λ (ps : List ℕ). g.T.Tally.join t c.args.hand.now.sum (g.T.Tally.of t c.args.node.now (length ps))) c.numbers.ensures.value)) c.keep.ensures.incumbent w after

pub returns-in-Ok-note-clause-fits : goal.returns-in-Ok-note-clause-fits
returns-in-Ok-note-clause-fits g c =
    let tally = c.args.tally.now in
    rw (c.keep.ensures.sum, c.note-in-Ok-Visit-2.ensures) ((g.T.Tally.monoid tally).join_fits c.args.hand.now.sum (g.T.Tally.of tally c.args.node.now _) c.requires.fits (g.T.Tally.of_fits tally c.args.node.now _))

pub returns-in-Err-clause-err : goal.returns-in-Err-clause-err
returns-in-Err-clause-err g c = λ begun notes levels w after.
    let t = c.args.tally.now in
    let old = frontier_state c.args.seat.now c.args.hand.now (log_view (g.R.Recorder.told c.args.log.now) (g.R.Recorder.totals c.args.log.now) (g.R.Recorder.number c.args.log.now)) c.args.frontier.now.next
    (map numbered_task c.args.frontier.now.tasks.items) in
    let whole = c.requires.whole ∙ sym (ap (λ (b : BestId). b.seats) c.requires.best) in
    enters-past g.P.Problem c.args.problem.now (g.T.Tally.join t) (g.T.Tally.none t) (g.T.Tally.of t) begun notes old _ levels c.args.frontier.now.path.numbers c.args.node.now c.in-Err.fault whole c.in-Err.ensures.err w

use Rattle.std.proofs.Common.{ℕ, ◌+◌, ◌-◌, List, [], ◌∷◌, ◌++◌, length, map, refl, ap, sym, subst, ◌∙◌, arith}
use Rattle.yew_laws.specs.PathValue.{PathValue}
use Rattle.yew_laws.specs.SearchTree.{search_tree, IsTask}
use Rattle.yew_log.specs.SeqLog.{visited_worth}
use Rattle.yew_walk.specs.LogViews.{log_view}
use Rattle.yew_ranked.specs.FrontierStates.{frontier_state, IsAmongChildren}
use Rattle.yew_ranked.specs.Tasks.{numbered_task}
use Rattle.yew_ranked.proofs.FrontierLevels.{among-start, visited-some, next-child, child-task, path-back, goes-spawned, goes-entered, goes-ended, spawn-stops, enter-stops, end-stops, on-ok, if-err}
use Rattle.yew_ranked.proofs.frontier.+walk_levels.Goals as goal
use Rattle.yew_ranked.proofs.frontier.+walk_levels.Goals.{then-levels-eq0+in-Ok, else-levels-eq0+in-Ok-walk_levels}

pub returns-in-Err-clause-err : goal.returns-in-Err-clause-err
returns-in-Err-clause-err g t c = λ begun notes w after. c.in-Err.ensures.err begun notes c.args.levels w after

pub children-init : goal.children-init
children-init g t c =
    let problem = c.args.problem.now in
    let tally = c.args.tally.now in
    let path = c.args.frontier.now.path.numbers in
    let node = c.args.node in
    let e = c.in-Ok-true.ensures in
    record {
      left = c.in_ok-kids.ensures;
      number = omega arith;
      path = ap (λ (p : PathValue). p.numbers) e.path;
      path_space = ap (λ (p : PathValue). p.space) e.path;
      next = e.next;
      best = e.best;
      share = e.share;
      space = e.space;
      fits = e.fits;
      among = λ begun notes so_far some.
          let children = g.P.Problem.children problem node in
          let now = frontier_state c.enter.new.seat c.enter.new.hand (log_view (g.R.Recorder.told c.enter.new.log) (g.R.Recorder.totals c.enter.new.log)
          (g.R.Recorder.number c.enter.new.log)) c.enter.new.frontier.next (map numbered_task c.enter.new.frontier.tasks.items) in
          subst (λ (left : List g.row.P-Node.Denot). IsAmongChildren (search_tree g.P.Problem problem) (g.T.Tally.join tally) (g.T.Tally.none tally)
          (g.T.Tally.of tally) c.args.levels path children begun notes 0 left now) (sym c.in_ok-kids.ensures)
          (among-start (search_tree g.P.Problem problem) (g.T.Tally.join tally) (g.T.Tally.none tally) (g.T.Tally.of tally) c.args.levels path children begun notes now so_far);
    }

pub returns-in-Err-spawn-clause-err : goal.returns-in-Err-spawn-clause-err
returns-in-Err-spawn-clause-err g t c = λ begun notes w after.
    let problem = c.args.problem.now in
    let tally = c.args.tally.now in
    let path = c.args.frontier.now.path.numbers in
    let node = c.args.node in
    let old = frontier_state c.args.seat.now c.args.hand.now (log_view (g.R.Recorder.told c.args.log.now) (g.R.Recorder.totals c.args.log.now) (g.R.Recorder.number c.args.log.now)) c.args.frontier.now.next
    (map numbered_task c.args.frontier.now.tasks.items) in
    let mid = frontier_state c.enter.new.seat c.enter.new.hand (log_view (g.R.Recorder.told c.enter.new.log) (g.R.Recorder.totals c.enter.new.log) (g.R.Recorder.number c.enter.new.log)) c.enter.new.frontier.next
    (map numbered_task c.enter.new.frontier.tasks.items) in
    let now = frontier_state c.children.seat c.children.hand (log_view (g.R.Recorder.told c.children.log) (g.R.Recorder.totals c.children.log) (g.R.Recorder.number c.children.log)) c.children.frontier.next
    (map numbered_task c.children.frontier.tasks.items) in
    let entered = (rw c.in-Ok-true.field-0-test at c.in-Ok-true.ensures.ok) begun notes w after in
    let some = visited-some notes entered.note path (g.P.Problem.worth problem node) (visited_worth notes) entered.note_is in
    let among = c.children.invariant.among begun (notes ++ entered.note ∷ []) entered.so_far some in
    spawn-stops (search_tree g.P.Problem problem) (g.T.Tally.join tally) (g.T.Tally.none tally) (g.T.Tally.of tally) c.args.levels path
    (c.children.frontier.path.numbers ++ c.children.number ∷ []) node begun notes old mid now c.children.number c.in-Ok-Some.child (g.P.Problem.remaining problem c.next.new.kids) (g.P.Problem.remaining problem c.children.kids)
    (log_view (g.R.Recorder.told c.spawn.new.log) (g.R.Recorder.totals c.spawn.new.log) (g.R.Recorder.number c.spawn.new.log)) c.in-Err-spawn.fault c.if-levels-eq0.true (ap (λ
    (p : List ℕ). p ++ c.children.number ∷ []) c.children.invariant.path) (rw c.in-Ok-Some.field-0-is at c.in-Ok-Some.ensures.ok) w entered among c.in-Err-spawn.ensures.err

pub walk_levels-requires-clause-task : goal.walk_levels-requires-clause-task
walk_levels-requires-clause-task g t c κs within =
    let problem = c.args.problem.now in
    let tally = c.args.tally.now in
    let path = c.args.frontier.now.path.numbers in
    let node = c.args.node in
    let child = c.in-Ok-Some.child in
    let left = g.P.Problem.remaining problem c.next.new.kids in
    let i = c.children.invariant in
    let next = next-child (g.P.Problem.children problem node) c.children.number child (g.P.Problem.remaining problem c.children.kids) left i.left (rw c.in-Ok-Some.field-0-is at c.in-Ok-Some.ensures.ok) in
    subst (λ (p : List ℕ). IsTask g.P.Problem problem p child) (sym (c.push.ensures.numbers ∙ ap (λ (p : List ℕ). p ++ c.children.number ∷ []) i.path))
    (child-task g.P.Problem problem (g.P.Problem.ranked problem) path node c.children.number child left c.requires.task next.at)

pub returns-in-Err-walk_levels-clause-err : goal.returns-in-Err-walk_levels-clause-err
returns-in-Err-walk_levels-clause-err g t c = λ begun notes w after.
    let problem = c.args.problem.now in
    let tally = c.args.tally.now in
    let path = c.args.frontier.now.path.numbers in
    let node = c.args.node in
    let old = frontier_state c.args.seat.now c.args.hand.now (log_view (g.R.Recorder.told c.args.log.now) (g.R.Recorder.totals c.args.log.now) (g.R.Recorder.number c.args.log.now)) c.args.frontier.now.next
    (map numbered_task c.args.frontier.now.tasks.items) in
    let mid = frontier_state c.enter.new.seat c.enter.new.hand (log_view (g.R.Recorder.told c.enter.new.log) (g.R.Recorder.totals c.enter.new.log) (g.R.Recorder.number c.enter.new.log)) c.enter.new.frontier.next
    (map numbered_task c.enter.new.frontier.tasks.items) in
    let now = frontier_state c.children.seat c.children.hand (log_view (g.R.Recorder.told c.children.log) (g.R.Recorder.totals c.children.log) (g.R.Recorder.number c.children.log)) c.children.frontier.next
    (map numbered_task c.children.frontier.tasks.items) in
    let entered = (rw c.in-Ok-true.field-0-test at c.in-Ok-true.ensures.ok) begun notes w after in
    let some = visited-some notes entered.note path (g.P.Problem.worth problem node) (visited_worth notes) entered.note_is in
    let among = c.children.invariant.among begun (notes ++ entered.note ∷ []) entered.so_far some in
    enter-stops (search_tree g.P.Problem problem) (g.T.Tally.join tally) (g.T.Tally.none tally) (g.T.Tally.of tally) c.args.levels
    (c.args.levels - 1) path c.push.new.self.numbers node begun notes old mid now c.children.number c.in-Ok-Some.child (g.P.Problem.remaining problem c.next.new.kids) (g.P.Problem.remaining problem c.children.kids)
    (log_view (g.R.Recorder.told c.walk_levels.new.log) (g.R.Recorder.totals c.walk_levels.new.log) (g.R.Recorder.number c.walk_levels.new.log)) c.in-Err-walk_levels.fault (omega (arith, c.if-levels-eq0.false))
    (c.push.ensures.numbers ∙ ap (λ (p : List ℕ). p ++ c.children.number ∷ []) c.children.invariant.path) (rw c.in-Ok-Some.field-0-is at c.in-Ok-Some.ensures.ok) w entered among c.in-Err-walk_levels.ensures.err

pub children-preserved-then-if-drop : goal.children-preserved-then-if-drop
children-preserved-then-if-drop g t c =
    let problem = c.args.problem.now in
    let tally = c.args.tally.now in
    let path = c.args.frontier.now.path.numbers in
    let node = c.args.node in
    let rest = g.P.Problem.remaining problem c.children.kids in
    let left = g.P.Problem.remaining problem c.next.new.kids in
    let child = c.in-Ok-Some.child in
    let first = rw c.in-Ok-Some.field-0-is at c.in-Ok-Some.ensures.ok in
    let next = next-child (g.P.Problem.children problem node) c.children.number child rest left c.children.invariant.left first in
    let i = c.children.invariant in
    elim c.if-levels-eq0.branch [
      | then-levels-eq0+in-Ok w ↦ rw (w.seat-is, w.hand-is, w.log-is, w.frontier-is) record {
        left = next.later;
        number = next.within;
        path = ap (λ (p : PathValue). p.numbers) w.in-Ok.ensures.path ∙ i.path;
        path_space = ap (λ (p : PathValue). p.space) w.in-Ok.ensures.path ∙ i.path_space;
        next = w.in-Ok.ensures.next;
        best = i.best;
        share = i.share;
        space = i.space;
        fits = i.fits;
        among = λ begun notes so_far some.
            goes-spawned (search_tree g.P.Problem problem) (g.T.Tally.join tally) (g.T.Tally.none tally) (g.T.Tally.of tally) c.args.levels path (c.children.frontier.path.numbers ++ c.children.number ∷ [])
            (g.P.Problem.children problem node) begun notes c.children.number (c.children.number + 1) child left rest
            (frontier_state c.children.seat c.children.hand (log_view (g.R.Recorder.told c.children.log) (g.R.Recorder.totals c.children.log) (g.R.Recorder.number c.children.log)) c.children.frontier.next
            (map numbered_task c.children.frontier.tasks.items))
            (frontier_state c.children.seat c.children.hand (log_view (g.R.Recorder.told w.spawn.new.log) (g.R.Recorder.totals w.spawn.new.log) (g.R.Recorder.number w.spawn.new.log)) w.spawn.new.frontier.next
            (map numbered_task w.spawn.new.frontier.tasks.items))
            w.if-levels-eq0.true (ap (λ (p : List ℕ). p ++ c.children.number ∷ []) i.path) (omega arith) first (i.among begun notes so_far some) w.in-Ok.ensures.ok refl refl
            (child-task g.P.Problem problem (g.P.Problem.ranked problem) path node c.children.number child left c.requires.task next.at).found;
      }
      | else-levels-eq0+in-Ok-walk_levels w ↦
          let pushed = w.push.ensures.numbers ∙ ap (λ (p : List ℕ). p ++ c.children.number ∷ []) i.path in
          rw (w.seat-is, w.hand-is, w.log-is, w.frontier-is) record {
            left = next.later;
            number = next.within;
            path = w.truncate.ensures.numbers ∙ path-back w.walk_levels.new.frontier.path.numbers path c.children.number (length c.numbers-depth.result.now) (w.in-Ok-walk_levels.ensures.path ∙ pushed) (ap length
                (c.numbers-depth.ensures.value ∙ ap (λ (p : PathValue). p.numbers) c.in-Ok-true.ensures.path));
            path_space = w.truncate.ensures.space ∙ (w.in-Ok-walk_levels.ensures.path_space ∙ (w.push.ensures.space ∙ i.path_space));
            next = w.in-Ok-walk_levels.ensures.next;
            best = w.in-Ok-walk_levels.ensures.best ∙ i.best;
            share = w.in-Ok-walk_levels.ensures.share ∙ i.share;
            space = w.in-Ok-walk_levels.ensures.space ∙ i.space;
            fits = w.in-Ok-walk_levels.ensures.fits;
            among = λ begun notes so_far some.
                goes-entered (search_tree g.P.Problem problem) (g.T.Tally.join tally) (g.T.Tally.none tally) (g.T.Tally.of tally) c.args.levels (c.args.levels - 1) path w.push.new.self.numbers
                (g.P.Problem.children problem node) begun notes c.children.number (c.children.number + 1) child left rest
                (frontier_state c.children.seat c.children.hand (log_view (g.R.Recorder.told c.children.log) (g.R.Recorder.totals c.children.log) (g.R.Recorder.number c.children.log)) c.children.frontier.next
                (map numbered_task c.children.frontier.tasks.items))
                (frontier_state w.walk_levels.new.seat w.walk_levels.new.hand (log_view (g.R.Recorder.told w.walk_levels.new.log) (g.R.Recorder.totals w.walk_levels.new.log)
                (g.R.Recorder.number w.walk_levels.new.log)) w.walk_levels.new.frontier.next (map numbered_task w.walk_levels.new.frontier.tasks.items))
                (omega (arith, w.if-levels-eq0.false)) pushed (omega arith) first (i.among begun notes so_far some) some w.in-Ok-walk_levels.ensures.ok;
          }
    ]

pub children-preserved : goal.children-preserved
children-preserved g t c =
    let problem = c.args.problem.now in
    let tally = c.args.tally.now in
    let path = c.args.frontier.now.path.numbers in
    let node = c.args.node in
    let rest = g.P.Problem.remaining problem c.children.kids in
    let left = g.P.Problem.remaining problem c.next.new.kids in
    let child = c.in-Ok-Some.child in
    let first = rw c.in-Ok-Some.field-0-is at c.in-Ok-Some.ensures.ok in
    let next = next-child (g.P.Problem.children problem node) c.children.number child rest left c.children.invariant.left first in
    let i = c.children.invariant in
    elim c.if-levels-eq0.branch [
      | then-levels-eq0+in-Ok w ↦ rw (w.seat-is, w.hand-is, w.log-is, w.frontier-is) record {
        left = next.later;
        number = next.within;
        path = ap (λ (p : PathValue). p.numbers) w.in-Ok.ensures.path ∙ i.path;
        path_space = ap (λ (p : PathValue). p.space) w.in-Ok.ensures.path ∙ i.path_space;
        next = w.in-Ok.ensures.next;
        best = i.best;
        share = i.share;
        space = i.space;
        fits = i.fits;
        among = λ begun notes so_far some.
            goes-spawned (search_tree g.P.Problem problem) (g.T.Tally.join tally) (g.T.Tally.none tally) (g.T.Tally.of tally) c.args.levels path (c.children.frontier.path.numbers ++ c.children.number ∷ [])
            (g.P.Problem.children problem node) begun notes c.children.number (c.children.number + 1) child left rest
            (frontier_state c.children.seat c.children.hand (log_view (g.R.Recorder.told c.children.log) (g.R.Recorder.totals c.children.log) (g.R.Recorder.number c.children.log)) c.children.frontier.next
            (map numbered_task c.children.frontier.tasks.items))
            (frontier_state c.children.seat c.children.hand (log_view (g.R.Recorder.told w.spawn.new.log) (g.R.Recorder.totals w.spawn.new.log) (g.R.Recorder.number w.spawn.new.log)) w.spawn.new.frontier.next
            (map numbered_task w.spawn.new.frontier.tasks.items))
            w.if-levels-eq0.true (ap (λ (p : List ℕ). p ++ c.children.number ∷ []) i.path) (omega arith) first (i.among begun notes so_far some) w.in-Ok.ensures.ok refl refl
            (child-task g.P.Problem problem (g.P.Problem.ranked problem) path node c.children.number child left c.requires.task next.at).found;
      }
      | else-levels-eq0+in-Ok-walk_levels w ↦
          let pushed = w.push.ensures.numbers ∙ ap (λ (p : List ℕ). p ++ c.children.number ∷ []) i.path in
          rw (w.seat-is, w.hand-is, w.log-is, w.frontier-is) record {
            left = next.later;
            number = next.within;
            path = w.truncate.ensures.numbers ∙ path-back w.walk_levels.new.frontier.path.numbers path c.children.number (length c.numbers-depth.result.now) (w.in-Ok-walk_levels.ensures.path ∙ pushed) (ap length
                (c.numbers-depth.ensures.value ∙ ap (λ (p : PathValue). p.numbers) c.in-Ok-true.ensures.path));
            path_space = w.truncate.ensures.space ∙ (w.in-Ok-walk_levels.ensures.path_space ∙ (w.push.ensures.space ∙ i.path_space));
            next = w.in-Ok-walk_levels.ensures.next;
            best = w.in-Ok-walk_levels.ensures.best ∙ i.best;
            share = w.in-Ok-walk_levels.ensures.share ∙ i.share;
            space = w.in-Ok-walk_levels.ensures.space ∙ i.space;
            fits = w.in-Ok-walk_levels.ensures.fits;
            among = λ begun notes so_far some.
                goes-entered (search_tree g.P.Problem problem) (g.T.Tally.join tally) (g.T.Tally.none tally) (g.T.Tally.of tally) c.args.levels (c.args.levels - 1) path w.push.new.self.numbers
                (g.P.Problem.children problem node) begun notes c.children.number (c.children.number + 1) child left rest
                (frontier_state c.children.seat c.children.hand (log_view (g.R.Recorder.told c.children.log) (g.R.Recorder.totals c.children.log) (g.R.Recorder.number c.children.log)) c.children.frontier.next
                (map numbered_task c.children.frontier.tasks.items))
                (frontier_state w.walk_levels.new.seat w.walk_levels.new.hand (log_view (g.R.Recorder.told w.walk_levels.new.log) (g.R.Recorder.totals w.walk_levels.new.log)
                (g.R.Recorder.number w.walk_levels.new.log)) w.walk_levels.new.frontier.next (map numbered_task w.walk_levels.new.frontier.tasks.items))
                (omega (arith, w.if-levels-eq0.false)) pushed (omega arith) first (i.among begun notes so_far some) some w.in-Ok-walk_levels.ensures.ok;
          }
    ]

pub returns-in-Ok-None-clause-ok : goal.returns-in-Ok-None-clause-ok
returns-in-Ok-None-clause-ok g t c = on-ok c.note.result (λ log_is begun notes w after.
    let problem = c.args.problem.now in
    let tally = c.args.tally.now in
    let path = c.args.frontier.now.path.numbers in
    let node = c.args.node in
    let old = frontier_state c.args.seat.now c.args.hand.now (log_view (g.R.Recorder.told c.args.log.now) (g.R.Recorder.totals c.args.log.now) (g.R.Recorder.number c.args.log.now)) c.args.frontier.now.next
    (map numbered_task c.args.frontier.now.tasks.items) in
    let mid = frontier_state c.enter.new.seat c.enter.new.hand (log_view (g.R.Recorder.told c.enter.new.log) (g.R.Recorder.totals c.enter.new.log) (g.R.Recorder.number c.enter.new.log)) c.enter.new.frontier.next
    (map numbered_task c.enter.new.frontier.tasks.items) in
    let now = frontier_state c.children.seat c.children.hand (log_view (g.R.Recorder.told c.children.log) (g.R.Recorder.totals c.children.log) (g.R.Recorder.number c.children.log)) c.children.frontier.next
    (map numbered_task c.children.frontier.tasks.items) in
    let entered = (rw c.in-Ok-true.field-0-test at c.in-Ok-true.ensures.ok) begun notes w after in
    let some = visited-some notes entered.note path (g.P.Problem.worth problem node) (visited_worth notes) entered.note_is in
    let among = c.children.invariant.among begun (notes ++ entered.note ∷ []) entered.so_far some in
    let final = frontier_state c.children.seat c.children.hand (log_view (g.R.Recorder.told c.note.new.log) (g.R.Recorder.totals c.note.new.log) (g.R.Recorder.number c.note.new.log)) c.children.frontier.next
    (map numbered_task c.children.frontier.tasks.items) in
    goes-ended (search_tree g.P.Problem problem) (g.T.Tally.join tally) (g.T.Tally.none tally) (g.T.Tally.of tally) c.args.levels path c.children.frontier.path.numbers node begun notes mid now final
    c.children.number (g.P.Problem.remaining problem c.children.kids)
    c.children.invariant.path (rw c.in-Ok-None.field-0-is at c.in-Ok-None.ensures.ok).0 entered among log_is refl refl refl refl) c.note.ensures.ok

pub returns-in-Ok-None-clause-err : goal.returns-in-Ok-None-clause-err
returns-in-Ok-None-clause-err g t c = if-err c.note.result (λ fault log_is cause begun notes w after.
    let problem = c.args.problem.now in
    let tally = c.args.tally.now in
    let path = c.args.frontier.now.path.numbers in
    let node = c.args.node in
    let old = frontier_state c.args.seat.now c.args.hand.now (log_view (g.R.Recorder.told c.args.log.now) (g.R.Recorder.totals c.args.log.now) (g.R.Recorder.number c.args.log.now)) c.args.frontier.now.next
    (map numbered_task c.args.frontier.now.tasks.items) in
    let mid = frontier_state c.enter.new.seat c.enter.new.hand (log_view (g.R.Recorder.told c.enter.new.log) (g.R.Recorder.totals c.enter.new.log) (g.R.Recorder.number c.enter.new.log)) c.enter.new.frontier.next
    (map numbered_task c.enter.new.frontier.tasks.items) in
    let now = frontier_state c.children.seat c.children.hand (log_view (g.R.Recorder.told c.children.log) (g.R.Recorder.totals c.children.log) (g.R.Recorder.number c.children.log)) c.children.frontier.next
    (map numbered_task c.children.frontier.tasks.items) in
    let entered = (rw c.in-Ok-true.field-0-test at c.in-Ok-true.ensures.ok) begun notes w after in
    let some = visited-some notes entered.note path (g.P.Problem.worth problem node) (visited_worth notes) entered.note_is in
    let among = c.children.invariant.among begun (notes ++ entered.note ∷ []) entered.so_far some in
    end-stops (search_tree g.P.Problem problem) (g.T.Tally.join tally) (g.T.Tally.none tally) (g.T.Tally.of tally) c.args.levels path c.children.frontier.path.numbers node begun notes old mid now c.children.number
    (g.P.Problem.remaining problem c.children.kids) (log_view (g.R.Recorder.told c.note.new.log) (g.R.Recorder.totals c.note.new.log) (g.R.Recorder.number c.note.new.log)) fault
    c.children.invariant.path (rw c.in-Ok-None.field-0-is at c.in-Ok-None.ensures.ok).0 w entered among log_is cause) c.note.ensures.err c.note.ensures.cause

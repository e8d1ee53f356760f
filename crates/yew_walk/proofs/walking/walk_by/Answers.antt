use Rattle.std.proofs.Common.{refl, length, List, [], ap, sym, subst, ◌∙◌, arith}
use Rattle.yew_laws.proofs.Trees.{node_at-rank}
use Rattle.yew_stack.specs.Levels.{LevelValue}
use Rattle.yew_stack.specs.ToCome.{AllOpen}
use Rattle.yew_walk.specs.LogViews.{log_view}
use Rattle.yew_walk.specs.Scenes.{scene}
use Rattle.yew_walk.proofs.Endings.{awaits-start, asked-open, walking-walked}
use Rattle.yew_walk.proofs.Refusals.{taken-stops, awaits-stops, event-stops}
use Rattle.yew_walk.proofs.UnderWays.{found-there}
use Rattle.yew_walk.proofs.Walkings.{awaits-enters, event-asked}
use Rattle.yew_walk.proofs.walking.walk_by.Goals as goal

pub returns-in-Err-clause-refused : goal.returns-in-Err-clause-refused
returns-in-Err-clause-refused g c =
    let t = c.args.tally.now in
    let first = scene c.args.seat.now c.args.hand.now c.args.policy.now (g.O.Outlet.sent c.args.outlet.now) (g.O.Outlet.answers c.args.outlet.now) (log_view (g.R.Recorder.told c.args.log.now) (g.R.Recorder.totals c.args.log.now) (g.R.Recorder.number c.args.log.now)) in
    let after = scene c.args.seat.now c.args.hand.now c.args.policy.now (g.O.Outlet.sent c.args.outlet.now) (g.O.Outlet.answers c.args.outlet.now) (log_view (g.R.Recorder.told c.note.new.log) (g.R.Recorder.totals c.note.new.log) (g.R.Recorder.number c.note.new.log)) in
    taken-stops g.P.Problem c.args.problem.now c.args.keying (g.T.Tally.join t) (g.T.Tally.of t) g.Q.Policy.meaning c.args.task.path.numbers (g.P.Problem.ranked c.args.problem.now) c.requires.root (found-there g.P.Problem c.args.problem.now c.args.keying c.args.task.path.numbers c.args.task.path.numbers c.args.task.node c.requires.task) first after c.in-Err.fault refl refl c.in-Err.ensures.err c.in-Err.ensures.cause

pub overflow_cast-depth : goal.overflow_cast-depth
overflow_cast-depth g c =
    let meaning = g.P.Problem in
    let problem = c.args.problem.now in
    omega (arith, ap length c.numbers.ensures.value, node_at-rank (meaning.ranked problem) c.args.task.path.numbers (meaning.root problem) c.args.task.node c.requires.root c.requires.task.found, meaning.root_rank problem c.requires.root)

pub returns-in-Err-enter-clause-refused : goal.returns-in-Err-enter-clause-refused
returns-in-Err-enter-clause-refused g c =
    let meaning = g.P.Problem in
    let problem = c.args.problem.now in
    let t = c.args.tally.now in
    let path = c.args.task.path.numbers in
    let node = c.args.task.node in
    let first = scene c.args.seat.now c.args.hand.now c.args.policy.now (g.O.Outlet.sent c.args.outlet.now) (g.O.Outlet.answers c.args.outlet.now) (log_view (g.R.Recorder.told c.args.log.now) (g.R.Recorder.totals c.args.log.now) (g.R.Recorder.number c.args.log.now)) in
    let now = scene c.args.seat.now c.args.hand.now c.start.new.self (g.O.Outlet.sent c.args.outlet.now) (g.O.Outlet.answers c.args.outlet.now) (log_view (g.R.Recorder.told c.note.new.log) (g.R.Recorder.totals c.note.new.log) (g.R.Recorder.number c.note.new.log)) in
    let after = scene c.enter.new.seat c.enter.new.hand c.start.new.self (g.O.Outlet.sent c.args.outlet.now) (g.O.Outlet.answers c.args.outlet.now) (log_view (g.R.Recorder.told c.enter.new.log) (g.R.Recorder.totals c.enter.new.log) (g.R.Recorder.number c.enter.new.log)) in
    let awaits = awaits-start meaning problem c.args.keying (g.T.Tally.join t) (g.T.Tally.of t) g.Q.Policy.meaning path {did = λ calls. g.O.Outlet.goes c.args.outlet.now calls c.args.outlet.now} (meaning.ranked problem) c.requires.root first now node c.requires.task refl refl refl refl c.start.ensures c.in-Ok.ensures.ok (g.O.Outlet.goes_none c.args.outlet.now) in
    awaits-stops meaning problem c.args.keying (g.T.Tally.join t) (g.T.Tally.of t) g.Q.Policy.meaning path (meaning.ranked problem) c.requires.root first now after [] path node c.in-Err-enter.fault c.requires.task awaits (rw c.new-stack.ensures at c.in-Err-enter.ensures.err) refl

pub returns-in-Err-enter-clause-kept : goal.returns-in-Err-enter-clause-kept
returns-in-Err-enter-clause-kept g c = g.O.Outlet.kept_same c.args.outlet.now

pub returns-in-Err-ask-clause-refused : goal.returns-in-Err-ask-clause-refused
returns-in-Err-ask-clause-refused g c =
    let meaning = g.P.Problem in
    let problem = c.args.problem.now in
    let t = c.args.tally.now in
    let path = c.args.task.path.numbers in
    let node = c.args.task.node in
    let first = scene c.args.seat.now c.args.hand.now c.args.policy.now (g.O.Outlet.sent c.args.outlet.now) (g.O.Outlet.answers c.args.outlet.now) (log_view (g.R.Recorder.told c.args.log.now) (g.R.Recorder.totals c.args.log.now) (g.R.Recorder.number c.args.log.now)) in
    let now = scene c.args.seat.now c.args.hand.now c.start.new.self (g.O.Outlet.sent c.args.outlet.now) (g.O.Outlet.answers c.args.outlet.now) (log_view (g.R.Recorder.told c.note.new.log) (g.R.Recorder.totals c.note.new.log) (g.R.Recorder.number c.note.new.log)) in
    let mid = scene c.enter.new.seat c.enter.new.hand c.start.new.self (g.O.Outlet.sent c.args.outlet.now) (g.O.Outlet.answers c.args.outlet.now) (log_view (g.R.Recorder.told c.enter.new.log) (g.R.Recorder.totals c.enter.new.log) (g.R.Recorder.number c.enter.new.log)) in
    let after = scene c.enter.new.seat c.enter.new.hand c.ask.new.policy (g.O.Outlet.sent c.ask.new.outlet) (g.O.Outlet.answers c.ask.new.outlet) (log_view (g.R.Recorder.told c.ask.new.log) (g.R.Recorder.totals c.ask.new.log) (g.R.Recorder.number c.ask.new.log)) in
    let awaits = awaits-start meaning problem c.args.keying (g.T.Tally.join t) (g.T.Tally.of t) g.Q.Policy.meaning path {did = λ calls. g.O.Outlet.goes c.args.outlet.now calls c.args.outlet.now} (meaning.ranked problem) c.requires.root first now node c.requires.task refl refl refl refl c.start.ensures c.in-Ok.ensures.ok (g.O.Outlet.goes_none c.args.outlet.now) in
    let entered = rw c.new-stack.ensures at c.in-Ok-enter.ensures.ok in
    let happened = awaits-enters meaning problem c.args.keying (g.T.Tally.join t) (g.T.Tally.of t) g.Q.Policy.meaning path (meaning.ranked problem) c.in-Ok-enter.event first now mid [] c.enter.new.stack.levels path node c.requires.task awaits entered c.in-Ok-enter.ensures.within refl refl refl in
    let asked = rw c.numbers.ensures.value at c.in-Err-ask.ensures.err in
    event-stops meaning problem c.args.keying (g.T.Tally.join t) (g.T.Tally.of t) g.Q.Policy.meaning path (meaning.ranked problem) c.requires.root asked.0 first mid after c.enter.new.stack.levels c.ask.new.stack.levels c.in-Ok-enter.event (length path) c.in-Err-ask.fault happened asked.1 refl

pub loop-stack-init : goal.loop-stack-init
loop-stack-init g c =
    let meaning = g.P.Problem in
    let problem = c.args.problem.now in
    let t = c.args.tally.now in
    let path = c.args.task.path.numbers in
    let node = c.args.task.node in
    let first = scene c.args.seat.now c.args.hand.now c.args.policy.now (g.O.Outlet.sent c.args.outlet.now) (g.O.Outlet.answers c.args.outlet.now) (log_view (g.R.Recorder.told c.args.log.now) (g.R.Recorder.totals c.args.log.now) (g.R.Recorder.number c.args.log.now)) in
    let now = scene c.args.seat.now c.args.hand.now c.start.new.self (g.O.Outlet.sent c.args.outlet.now) (g.O.Outlet.answers c.args.outlet.now) (log_view (g.R.Recorder.told c.note.new.log) (g.R.Recorder.totals c.note.new.log) (g.R.Recorder.number c.note.new.log)) in
    let mid = scene c.enter.new.seat c.enter.new.hand c.start.new.self (g.O.Outlet.sent c.args.outlet.now) (g.O.Outlet.answers c.args.outlet.now) (log_view (g.R.Recorder.told c.enter.new.log) (g.R.Recorder.totals c.enter.new.log) (g.R.Recorder.number c.enter.new.log)) in
    let after = scene c.enter.new.seat c.enter.new.hand c.ask.new.policy (g.O.Outlet.sent c.ask.new.outlet) (g.O.Outlet.answers c.ask.new.outlet) (log_view (g.R.Recorder.told c.ask.new.log) (g.R.Recorder.totals c.ask.new.log) (g.R.Recorder.number c.ask.new.log)) in
    let awaits = awaits-start meaning problem c.args.keying (g.T.Tally.join t) (g.T.Tally.of t) g.Q.Policy.meaning path (meaning.ranked problem) c.requires.root first now node c.requires.task refl refl refl refl c.start.ensures c.in-Ok.ensures.ok (g.O.Outlet.goes_none c.args.outlet.now) in
    let entered = rw c.new-stack.ensures at c.in-Ok-enter.ensures.ok in
    let happened = awaits-enters meaning problem c.args.keying (g.T.Tally.join t) (g.T.Tally.of t) g.Q.Policy.meaning path (meaning.ranked problem) c.in-Ok-enter.event first now mid [] c.enter.new.stack.levels path node c.requires.task awaits entered c.in-Ok-enter.ensures.within refl refl refl in
    let asked = rw c.numbers.ensures.value at c.in-Ok-ask.ensures.ok in
    let open_before = c.in-Ok-enter.ensures.levels_open (subst (λ (s : List (LevelValue g.row.P-Kids.Denot)). AllOpen meaning problem s) (sym (ap (λ d. d.levels) c.new-stack.ensures)) tt) in
    record {
      levels_open = asked-open meaning problem g.Q.Policy.meaning _ _ _ c.enter.new.stack.levels c.ask.new.stack.levels _ _ _ _ asked.2 open_before;
      seat = c.enter.ensures.seat;
      share = c.enter.ensures.share;
      space = c.enter.ensures.space;
      fits = c.enter.ensures.fits;
      problem = c.ask.ensures.problem;
      kept = c.ask.ensures.kept;
      later = c.in-Ok-ask.ensures.later;
      walking = event-asked meaning problem c.args.keying (g.T.Tally.join t) (g.T.Tally.of t) g.Q.Policy.meaning path asked.0 c.in-Ok-enter.event (length path) first mid after c.enter.new.stack.levels c.ask.new.stack.levels happened asked.2 (g.O.Outlet.goes_on c.args.outlet.now c.args.outlet.now c.ask.new.outlet) refl refl asked.1;
    }

pub loop-stack-preserved : goal.loop-stack-preserved
loop-stack-preserved g c =
    let before = c.loop-stack.invariant in
    record {
      levels_open = c.in-Ok-true.ensures.levels_open;
      seat = c.turn.ensures.seat ∙ before.seat;
      share = c.turn.ensures.share ∙ before.share;
      space = c.turn.ensures.space ∙ before.space;
      fits = c.turn.ensures.fits;
      problem = c.turn.ensures.problem ∙ before.problem;
      kept = g.O.Outlet.kept_twice c.args.outlet.now c.loop-stack.outlet c.turn.new.outlet before.kept c.turn.ensures.kept;
      later = g.O.Outlet.later_twice c.args.outlet.now c.loop-stack.outlet c.turn.new.outlet before.later c.in-Ok-true.ensures.later;
      walking = c.in-Ok-true.ensures.ok c.args.task.path.numbers c.args.outlet.now _ before.walking;
    }

pub returns-in-Ok-false-clause-walked : goal.returns-in-Ok-false-clause-walked
returns-in-Ok-false-clause-walked g c =
    let t = c.args.tally.now in
    let before = c.loop-stack.invariant in
    let first = scene c.args.seat.now c.args.hand.now c.args.policy.now (g.O.Outlet.sent c.args.outlet.now) (g.O.Outlet.answers c.args.outlet.now) (log_view (g.R.Recorder.told c.args.log.now) (g.R.Recorder.totals c.args.log.now) (g.R.Recorder.number c.args.log.now)) in
    let after = scene c.turn.new.seat c.turn.new.hand c.turn.new.policy (g.O.Outlet.sent c.turn.new.outlet) (g.O.Outlet.answers c.turn.new.outlet) (log_view (g.R.Recorder.told c.turn.new.log) (g.R.Recorder.totals c.turn.new.log) (g.R.Recorder.number c.turn.new.log)) in
    let empty = rw c.in-Ok-false.field-0-test at c.in-Ok-false.ensures.more in
    walking-walked g.P.Problem c.args.problem.now c.args.keying (g.T.Tally.join t) (g.T.Tally.of t) g.Q.Policy.meaning c.args.task.path.numbers (g.T.Tally.monoid t) (g.T.Tally.of_fits t) first after c.turn.new.stack.levels c.requires.fits empty (c.in-Ok-false.ensures.ok c.args.task.path.numbers c.args.outlet.now first before.walking)

pub returns-in-Ok-false-clause-kept : goal.returns-in-Ok-false-clause-kept
returns-in-Ok-false-clause-kept g c = g.O.Outlet.kept_twice c.args.outlet.now c.loop-stack.outlet c.turn.new.outlet c.loop-stack.invariant.kept c.turn.ensures.kept

pub returns-in-Ok-false-clause-later : goal.returns-in-Ok-false-clause-later
returns-in-Ok-false-clause-later g c = g.O.Outlet.later_twice c.args.outlet.now c.loop-stack.outlet c.turn.new.outlet c.loop-stack.invariant.later c.in-Ok-false.ensures.later

pub returns-in-Err-turn-clause-kept : goal.returns-in-Err-turn-clause-kept
returns-in-Err-turn-clause-kept g c = g.O.Outlet.kept_twice c.args.outlet.now c.loop-stack.outlet c.turn.new.outlet c.loop-stack.invariant.kept c.turn.ensures.kept

pub returns-in-Err-turn-clause-refused : goal.returns-in-Err-turn-clause-refused
returns-in-Err-turn-clause-refused g c = c.in-Err-turn.ensures.err c.args.task.path.numbers c.args.outlet.now _ c.loop-stack.invariant.walking

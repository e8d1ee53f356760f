use Rattle.std.proofs.Common.{refl, length, ap, ◌∙◌, arith}
use Rattle.yew_laws.specs.declared.problem.Task.{Task}
use Rattle.yew_laws.proofs.Trees.{node_at-rank}
use Rattle.yew_walk.specs.LogViews.{log_view}
use Rattle.yew_walk.specs.Scenes.{scene}
use Rattle.yew_walk.specs.declared.policy.Event.TheVariants.{Ended}
use Rattle.yew_walk.proofs.Endings.{asked-turns_left, node-turns_left, end-turns_left, empty-stack, end-depth}
use Rattle.yew_walk.proofs.Refusals.{walking-stops, awaits-stops, ends-stops, event-stops}
use Rattle.yew_walk.proofs.Walkings.{awaits-gives, awaits-enters, walking-ends, event-asked}
use Rattle.yew_walk.proofs.walking.turn.Goals as goal

pub overflow_cast-depth : goal.overflow_cast-depth
overflow_cast-depth g c =
    let meaning = g.P.Problem in
    let problem = c.args.problem.now in
    let opened = rw c.in-Ok-Node.field-0-is at (c.in-Ok-Node.ensures.levels_open c.requires.levels_open) in
    let is = opened.1 in
    omega (arith, ap length (c.numbers.ensures.value ∙ c.path.ensures), node_at-rank (meaning.ranked problem) c.next.new.self.path (meaning.root problem) c.in-Ok-Node.node c.requires.root is.found, meaning.root_rank problem c.requires.root)

pub overflow_cast-depth-in-Ok-Ended : goal.overflow_cast-depth-in-Ok-Ended
overflow_cast-depth-in-Ok-Ended g c =
    let meaning = g.P.Problem in
    let problem = c.args.problem.now in
    let short = end-depth meaning problem (meaning.ranked problem) c.requires.root (meaning.root_rank problem c.requires.root) c.args.stack.now.levels c.next.new.self.levels c.next.new.self.path c.requires.levels_open (rw c.in-Ok-Ended.field-0-is at c.in-Ok-Ended.ensures.ok) in
    omega (arith, ap length (c.numbers-in-Ok-Ended.ensures.value ∙ c.path-in-Ok-Ended.ensures), short)

pub returns-in-Err-enter-clause-err : goal.returns-in-Err-enter-clause-err
returns-in-Err-enter-clause-err g c = λ task start first w.
    let meaning = g.P.Problem in
    let problem = c.args.problem.now in
    let ranked = meaning.ranked problem in
    let t = c.args.tally.now in
    let now = scene c.args.seat.now c.args.hand.now c.args.policy.now (g.O.Outlet.sent c.args.outlet.now) (g.O.Outlet.answers c.args.outlet.now) (log_view (g.R.Recorder.told c.args.log.now) (g.R.Recorder.totals c.args.log.now) (g.R.Recorder.number c.args.log.now)) in
    let after = scene c.enter.new.seat c.enter.new.hand c.args.policy.now (g.O.Outlet.sent c.args.outlet.now) (g.O.Outlet.answers c.args.outlet.now) (log_view (g.R.Recorder.told c.enter.new.log) (g.R.Recorder.totals c.enter.new.log) (g.R.Recorder.number c.enter.new.log)) in
    let given : Task g.row.P-Node.Denot = record { path = record { numbers = c.next.new.self.path; space = length c.next.new.self.path }; node = c.in-Ok-Node.node } in
    let opened = rw c.in-Ok-Node.field-0-is at (c.in-Ok-Node.ensures.levels_open c.requires.levels_open) in
    let is = opened.1 in
    let awaits = awaits-gives meaning problem c.args.keying (g.T.Tally.join t) (g.T.Tally.of t) g.Q.Policy.meaning task ranked first now c.args.stack.now.levels c.next.new.self.levels given w (rw c.in-Ok-Node.field-0-is at c.in-Ok-Node.ensures.ok) in
    awaits-stops meaning problem c.args.keying (g.T.Tally.join t) (g.T.Tally.of t) g.Q.Policy.meaning task ranked c.requires.root first now after c.next.new.self.levels given.path.numbers given.node c.in-Err-enter.fault is awaits c.in-Err-enter.ensures.err refl

pub returns-in-Err-note-clause-err : goal.returns-in-Err-note-clause-err
returns-in-Err-note-clause-err g c = λ task start first w.
    let t = c.args.tally.now in
    let now = scene c.args.seat.now c.args.hand.now c.args.policy.now (g.O.Outlet.sent c.args.outlet.now) (g.O.Outlet.answers c.args.outlet.now) (log_view (g.R.Recorder.told c.args.log.now) (g.R.Recorder.totals c.args.log.now) (g.R.Recorder.number c.args.log.now)) in
    let after = scene c.args.seat.now c.args.hand.now c.args.policy.now (g.O.Outlet.sent c.args.outlet.now) (g.O.Outlet.answers c.args.outlet.now) (log_view (g.R.Recorder.told c.note.new.log) (g.R.Recorder.totals c.note.new.log) (g.R.Recorder.number c.note.new.log)) in
    ends-stops g.P.Problem c.args.problem.now c.args.keying (g.T.Tally.join t) (g.T.Tally.of t) g.Q.Policy.meaning task (g.P.Problem.ranked c.args.problem.now) c.requires.root first now after c.args.stack.now.levels c.next.new.self.levels c.next.new.self.path c.in-Err-note.fault w (rw c.in-Ok-Ended.field-0-is at c.in-Ok-Ended.ensures.ok) c.in-Err-note.ensures.err (rw c.path-in-Ok-Ended-2.ensures at c.in-Err-note.ensures.cause) refl refl

pub returns-in-Ok-ask-clause-ok : goal.returns-in-Ok-ask-clause-ok
returns-in-Ok-ask-clause-ok g c = λ task start first w.
    let meaning = g.P.Problem in
    let problem = c.args.problem.now in
    let ranked = meaning.ranked problem in
    let t = c.args.tally.now in
    let now = scene c.args.seat.now c.args.hand.now c.args.policy.now (g.O.Outlet.sent c.args.outlet.now) (g.O.Outlet.answers c.args.outlet.now) (log_view (g.R.Recorder.told c.args.log.now) (g.R.Recorder.totals c.args.log.now) (g.R.Recorder.number c.args.log.now)) in
    let mid = scene c.enter.new.seat c.enter.new.hand c.args.policy.now (g.O.Outlet.sent c.args.outlet.now) (g.O.Outlet.answers c.args.outlet.now) (log_view (g.R.Recorder.told c.enter.new.log) (g.R.Recorder.totals c.enter.new.log) (g.R.Recorder.number c.enter.new.log)) in
    let after = scene c.enter.new.seat c.enter.new.hand c.ask.new.policy (g.O.Outlet.sent c.ask.new.outlet) (g.O.Outlet.answers c.ask.new.outlet) (log_view (g.R.Recorder.told c.ask.new.log) (g.R.Recorder.totals c.ask.new.log) (g.R.Recorder.number c.ask.new.log)) in
    let given : Task g.row.P-Node.Denot = record { path = record { numbers = c.next.new.self.path; space = length c.next.new.self.path }; node = c.in-Ok-Node.node } in
    let opened = rw c.in-Ok-Node.field-0-is at (c.in-Ok-Node.ensures.levels_open c.requires.levels_open) in
    let is = opened.1 in
    let awaits = awaits-gives meaning problem c.args.keying (g.T.Tally.join t) (g.T.Tally.of t) g.Q.Policy.meaning task ranked first now c.args.stack.now.levels c.next.new.self.levels given w (rw c.in-Ok-Node.field-0-is at c.in-Ok-Node.ensures.ok) in
    let happened = awaits-enters meaning problem c.args.keying (g.T.Tally.join t) (g.T.Tally.of t) g.Q.Policy.meaning task ranked c.in-Ok.event first now mid c.next.new.self.levels c.enter.new.stack.levels given.path.numbers given.node is awaits c.in-Ok.ensures.ok c.in-Ok.ensures.within refl refl refl in
    let asked = rw (c.numbers.ensures.value, c.path.ensures) at c.in-Ok-ask.ensures.ok in
    event-asked meaning problem c.args.keying (g.T.Tally.join t) (g.T.Tally.of t) g.Q.Policy.meaning task asked.0 c.in-Ok.event (length given.path.numbers) first mid after c.enter.new.stack.levels c.ask.new.stack.levels happened asked.2 (g.O.Outlet.goes_on start c.args.outlet.now c.ask.new.outlet) refl refl asked.1

pub returns-in-Ok-ask-clause-more : goal.returns-in-Ok-ask-clause-more
returns-in-Ok-ask-clause-more g c =
    let meaning = g.P.Problem in
    let problem = c.args.problem.now in
    let t = c.args.tally.now in
    let opened = rw c.in-Ok-Node.field-0-is at (c.in-Ok-Node.ensures.levels_open c.requires.levels_open) in
    let is = opened.1 in
    let given : Task g.row.P-Node.Denot = record { path = record { numbers = c.next.new.self.path; space = length c.next.new.self.path }; node = c.in-Ok-Node.node } in
    let a = node-turns_left meaning problem c.args.keying (g.T.Tally.join t) (g.T.Tally.of t) (meaning.ranked problem) c.in-Ok.event given is _ _ _ _ _ _ c.args.stack.now.levels c.next.new.self.levels c.enter.new.stack.levels (rw c.in-Ok-Node.field-0-is at c.in-Ok-Node.ensures.ok) c.in-Ok.ensures.ok in
    let asked = c.in-Ok-ask.ensures.ok in
    let b = asked-turns_left meaning problem g.Q.Policy.meaning _ c.args.policy.now c.ask.new.policy c.enter.new.stack.levels c.ask.new.stack.levels _ _ _ _ asked.2 in
    omega (arith, a, b)

pub returns-in-Err-ask-clause-err : goal.returns-in-Err-ask-clause-err
returns-in-Err-ask-clause-err g c = λ task start first w.
    let meaning = g.P.Problem in
    let problem = c.args.problem.now in
    let ranked = meaning.ranked problem in
    let t = c.args.tally.now in
    let now = scene c.args.seat.now c.args.hand.now c.args.policy.now (g.O.Outlet.sent c.args.outlet.now) (g.O.Outlet.answers c.args.outlet.now) (log_view (g.R.Recorder.told c.args.log.now) (g.R.Recorder.totals c.args.log.now) (g.R.Recorder.number c.args.log.now)) in
    let mid = scene c.enter.new.seat c.enter.new.hand c.args.policy.now (g.O.Outlet.sent c.args.outlet.now) (g.O.Outlet.answers c.args.outlet.now) (log_view (g.R.Recorder.told c.enter.new.log) (g.R.Recorder.totals c.enter.new.log) (g.R.Recorder.number c.enter.new.log)) in
    let after = scene c.enter.new.seat c.enter.new.hand c.ask.new.policy (g.O.Outlet.sent c.ask.new.outlet) (g.O.Outlet.answers c.ask.new.outlet) (log_view (g.R.Recorder.told c.ask.new.log) (g.R.Recorder.totals c.ask.new.log) (g.R.Recorder.number c.ask.new.log)) in
    let given : Task g.row.P-Node.Denot = record { path = record { numbers = c.next.new.self.path; space = length c.next.new.self.path }; node = c.in-Ok-Node.node } in
    let opened = rw c.in-Ok-Node.field-0-is at (c.in-Ok-Node.ensures.levels_open c.requires.levels_open) in
    let is = opened.1 in
    let awaits = awaits-gives meaning problem c.args.keying (g.T.Tally.join t) (g.T.Tally.of t) g.Q.Policy.meaning task ranked first now c.args.stack.now.levels c.next.new.self.levels given w (rw c.in-Ok-Node.field-0-is at c.in-Ok-Node.ensures.ok) in
    let happened = awaits-enters meaning problem c.args.keying (g.T.Tally.join t) (g.T.Tally.of t) g.Q.Policy.meaning task ranked c.in-Ok.event first now mid c.next.new.self.levels c.enter.new.stack.levels given.path.numbers given.node is awaits c.in-Ok.ensures.ok c.in-Ok.ensures.within refl refl refl in
    let asked = rw (c.numbers.ensures.value, c.path.ensures) at c.in-Err-ask.ensures.err in
    event-stops meaning problem c.args.keying (g.T.Tally.join t) (g.T.Tally.of t) g.Q.Policy.meaning task (meaning.ranked problem) c.requires.root asked.0 first mid after c.enter.new.stack.levels c.ask.new.stack.levels c.in-Ok.event (length given.path.numbers) c.in-Err-ask.fault happened asked.1 refl

pub returns-in-Ok-ask-2-clause-ok : goal.returns-in-Ok-ask-2-clause-ok
returns-in-Ok-ask-2-clause-ok g c = λ task start first w.
    let meaning = g.P.Problem in
    let problem = c.args.problem.now in
    let t = c.args.tally.now in
    let now = scene c.args.seat.now c.args.hand.now c.args.policy.now (g.O.Outlet.sent c.args.outlet.now) (g.O.Outlet.answers c.args.outlet.now) (log_view (g.R.Recorder.told c.args.log.now) (g.R.Recorder.totals c.args.log.now) (g.R.Recorder.number c.args.log.now)) in
    let mid = scene c.args.seat.now c.args.hand.now c.args.policy.now (g.O.Outlet.sent c.args.outlet.now) (g.O.Outlet.answers c.args.outlet.now) (log_view (g.R.Recorder.told c.note.new.log) (g.R.Recorder.totals c.note.new.log) (g.R.Recorder.number c.note.new.log)) in
    let after = scene c.args.seat.now c.args.hand.now c.ask-in-Ok-Ended.new.policy (g.O.Outlet.sent c.ask-in-Ok-Ended.new.outlet) (g.O.Outlet.answers c.ask-in-Ok-Ended.new.outlet) (log_view (g.R.Recorder.told c.ask-in-Ok-Ended.new.log) (g.R.Recorder.totals c.ask-in-Ok-Ended.new.log) (g.R.Recorder.number c.ask-in-Ok-Ended.new.log)) in
    let path = c.next.new.self.path in
    let happened = walking-ends meaning problem c.args.keying (g.T.Tally.join t) (g.T.Tally.of t) g.Q.Policy.meaning task first now mid c.args.stack.now.levels c.next.new.self.levels path w (rw c.in-Ok-Ended.field-0-is at c.in-Ok-Ended.ensures.ok) (rw c.path-in-Ok-Ended-2.ensures at c.in-Ok-note.ensures.ok) c.in-Ok-note.ensures.within refl refl refl refl refl in
    let asked = rw (c.numbers-in-Ok-Ended.ensures.value, c.path-in-Ok-Ended.ensures) at c.in-Ok-ask-2.ensures.ok in
    event-asked meaning problem c.args.keying (g.T.Tally.join t) (g.T.Tally.of t) g.Q.Policy.meaning task asked.0 Ended (length path) first mid after c.next.new.self.levels c.ask-in-Ok-Ended.new.stack.levels happened asked.2 (g.O.Outlet.goes_on start c.args.outlet.now c.ask-in-Ok-Ended.new.outlet) refl refl asked.1

pub returns-in-Ok-ask-2-clause-more : goal.returns-in-Ok-ask-2-clause-more
returns-in-Ok-ask-2-clause-more g c =
    let meaning = g.P.Problem in
    let problem = c.args.problem.now in
    let a = end-turns_left meaning problem c.args.stack.now.levels c.next.new.self.levels c.next.new.self.path (rw c.in-Ok-Ended.field-0-is at c.in-Ok-Ended.ensures.ok) in
    let asked = c.in-Ok-ask-2.ensures.ok in
    let b = asked-turns_left meaning problem g.Q.Policy.meaning _ c.args.policy.now c.ask-in-Ok-Ended.new.policy c.next.new.self.levels c.ask-in-Ok-Ended.new.stack.levels _ _ _ _ asked.2 in
    omega (arith, a, b)

pub returns-in-Err-ask-2-clause-err : goal.returns-in-Err-ask-2-clause-err
returns-in-Err-ask-2-clause-err g c = λ task start first w.
    let meaning = g.P.Problem in
    let problem = c.args.problem.now in
    let t = c.args.tally.now in
    let now = scene c.args.seat.now c.args.hand.now c.args.policy.now (g.O.Outlet.sent c.args.outlet.now) (g.O.Outlet.answers c.args.outlet.now) (log_view (g.R.Recorder.told c.args.log.now) (g.R.Recorder.totals c.args.log.now) (g.R.Recorder.number c.args.log.now)) in
    let mid = scene c.args.seat.now c.args.hand.now c.args.policy.now (g.O.Outlet.sent c.args.outlet.now) (g.O.Outlet.answers c.args.outlet.now) (log_view (g.R.Recorder.told c.note.new.log) (g.R.Recorder.totals c.note.new.log) (g.R.Recorder.number c.note.new.log)) in
    let after = scene c.args.seat.now c.args.hand.now c.ask-in-Ok-Ended.new.policy (g.O.Outlet.sent c.ask-in-Ok-Ended.new.outlet) (g.O.Outlet.answers c.ask-in-Ok-Ended.new.outlet) (log_view (g.R.Recorder.told c.ask-in-Ok-Ended.new.log) (g.R.Recorder.totals c.ask-in-Ok-Ended.new.log) (g.R.Recorder.number c.ask-in-Ok-Ended.new.log)) in
    let path = c.next.new.self.path in
    let happened = walking-ends meaning problem c.args.keying (g.T.Tally.join t) (g.T.Tally.of t) g.Q.Policy.meaning task first now mid c.args.stack.now.levels c.next.new.self.levels path w (rw c.in-Ok-Ended.field-0-is at c.in-Ok-Ended.ensures.ok) (rw c.path-in-Ok-Ended-2.ensures at c.in-Ok-note.ensures.ok) c.in-Ok-note.ensures.within refl refl refl refl refl in
    let asked = rw (c.numbers-in-Ok-Ended.ensures.value, c.path-in-Ok-Ended.ensures) at c.in-Err-ask-2.ensures.err in
    event-stops meaning problem c.args.keying (g.T.Tally.join t) (g.T.Tally.of t) g.Q.Policy.meaning task (meaning.ranked problem) c.requires.root asked.0 first mid after c.next.new.self.levels c.ask-in-Ok-Ended.new.stack.levels Ended (length path) c.in-Err-ask-2.fault happened asked.1 refl

pub returns-in-Ok-Empty-clause-more : goal.returns-in-Ok-Empty-clause-more
returns-in-Ok-Empty-clause-more g c = let turned = rw c.in-Ok-Empty.field-0-is at c.in-Ok-Empty.ensures.ok in empty-stack g.P.Problem c.args.problem.now c.next.new.self.levels turned.1

pub returns-in-Err-clause-err : goal.returns-in-Err-clause-err
returns-in-Err-clause-err g c = λ task start first w.
    let t = c.args.tally.now in
    walking-stops g.P.Problem c.args.problem.now c.args.keying (g.T.Tally.join t) (g.T.Tally.of t) g.Q.Policy.meaning task (g.P.Problem.ranked c.args.problem.now) c.requires.root first _ c.args.stack.now.levels w

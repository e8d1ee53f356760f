use Rattle.std.proofs.Common.{length, take, ap, ◌∙◌}
use Rattle.yew_stack.proofs.Along.{seen_at}
use Rattle.yew_stack.proofs.Moving.{moves_to-none, moves_to-more, moves_to-one, moves_to-ends, gives-sound, gives-numbered, chunk-one, chunk-all}
use Rattle.yew_stack.proofs.descent.Rung.split.Goals as goal

pub returns-in-One-clause-ok : goal.returns-in-One-clause-ok
returns-in-One-clause-ok g c =
    let view = seen_at (g.P.Problem.remaining c.args.problem.now) (take c.args.depth c.args.path.now.numbers) in
    let first = rw c.if-not-branch.false at c.in_ok-move_next.ensures.ok in
    let new = view c.move_next.new.self in
    let moves = moves_to-one (view c.args.self.now) new c.args.into.now.items c.move_next.new.into.items first in
    (moves.all, chunk-one c.args.chunk (length moves.all.moved) new c.in-One.is moves.one)

pub others-init : goal.others-init
others-init g c =
    let problem = c.args.problem.now in
    let view = seen_at (g.P.Problem.remaining problem) (take c.args.depth c.args.path.now.numbers) in
    let old = view c.args.self.now in
    let new = view c.move_next.new.self in
    let first = rw c.if-not-branch.false at c.in_ok-move_next.ensures.ok in
    record {
      moves = moves_to-more old old new c.args.into.now.items c.args.into.now.items c.move_next.new.into.items (moves_to-none old c.args.into.now.items) first;
      sound = gives-sound (g.P.Problem.sound problem) old new first.task.path.numbers first.task.node first.gives c.requires.sound;
      numbered = gives-numbered old new first.task.path.numbers first.task.node first.gives c.requires.numbered;
    }

pub others-preserved : goal.others-preserved
others-preserved g c =
    let problem = c.args.problem.now in
    let view = seen_at (g.P.Problem.remaining problem) (take c.args.depth c.args.path.now.numbers) in
    let old = view c.others.self in
    let new = view c.move_next-in-others.new.self in
    let more = rw c.if-branch.true at c.in_ok-move_next-2.ensures.ok in
    record {
      moves = moves_to-more (view c.args.self.now) old new c.args.into.now.items c.others.into.items c.move_next-in-others.new.into.items c.others.invariant.moves.all more;
      sound = gives-sound (g.P.Problem.sound problem) old new more.task.path.numbers more.task.node more.gives c.others.invariant.sound;
      numbered = gives-numbered old new more.task.path.numbers more.task.node more.gives c.others.invariant.numbered;
    }

pub returns-clause-ok : goal.returns-clause-ok
returns-clause-ok g c =
    let view = seen_at (g.P.Problem.remaining c.args.problem.now) (take c.args.depth c.args.path.now.numbers) in
    let mid = view c.others.self in
    let new = view c.move_next-in-others.new.self in
    let last = rw c.if-branch.false at c.in_ok-move_next-2.ensures.ok in
    let moves = moves_to-ends (view c.args.self.now) mid new c.args.into.now.items c.others.into.items c.move_next-in-others.new.into.items c.others.invariant.moves last.2 last.1 in
    (moves.all, chunk-all c.args.chunk (length moves.all.moved) new c.in_default.not-One moves.some (ap (λ level. level.remaining) last.2 ∙ last.0))

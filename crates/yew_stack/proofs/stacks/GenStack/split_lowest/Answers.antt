use Rattle.std.proofs.Common.{◌≡◌, ◌<◌, [], length, set, ap, inr, ◌∙◌, arith}
use Rattle.std.specs.List.{AllByRecursion}
use Rattle.std.proofs.lemmas.List.{length-map}
use Rattle.yew_stack.specs.Levels.{level_of, levels, IsNumbered}
use Rattle.yew_stack.proofs.Places.{OnErr-always, place-All, place-same, place-so_far}
use Rattle.yew_stack.proofs.Moving.{lowest-at}
use Rattle.yew_stack.proofs.Coming.{split-to_come, split-open}
use Rattle.yew_stack.proofs.stacks.GenStack.split_lowest.Goals as goal

pub split-requires-clause-sound : goal.split-requires-clause-sound
split-requires-clause-sound g c κs within =
    let problem = c.args.problem.now in
    let view = level_of (g.P.Problem.remaining problem) in
    let items = c.loop-place.self-inside.levels.items in
    let place : c.loop-place.place < length items = omega (arith, c.self.inside.levels.ok.0, ap length c.self.view_is, ap length c.loop-place.invariant.same, length-map items view, length-map c.args.self.now view) in
    place-All view items c.loop-place.place place c.index_mut.result.now c.index_mut.ensures.value (λ level. AllByRecursion (g.P.Problem.sound problem) level.remaining) (rw c.loop-place.invariant.same c.requires.sound)

pub split-requires-clause-numbered : goal.split-requires-clause-numbered
split-requires-clause-numbered g c κs within =
    let view = level_of (g.P.Problem.remaining c.args.problem.now) in
    let items = c.loop-place.self-inside.levels.items in
    let place : c.loop-place.place < length items = omega (arith, c.self.inside.levels.ok.0, ap length c.self.view_is, ap length c.loop-place.invariant.same, length-map items view, length-map c.args.self.now view) in
    place-All view items c.loop-place.place place c.index_mut.result.now c.index_mut.ensures.value IsNumbered (rw c.loop-place.invariant.same c.requires.numbered)

pub loop-place-preserved : goal.loop-place-preserved
loop-place-preserved g c =
    let remaining = g.P.Problem.remaining c.args.problem.now in
    let view = level_of remaining in
    let items = c.loop-place.self-inside.levels.items in
    let seen = levels remaining c.args.self.now in
    let place : c.loop-place.place < length items = omega (arith, c.self.inside.levels.ok.0, ap length c.self.view_is, ap length c.loop-place.invariant.same, length-map items view, length-map c.args.self.now view) in
    let none = rw c.if-branch.false at c.in_ok-split.ensures.ok in
    record {
      same = place-same view items c.loop-place.place place c.index_mut.result.now c.index_mut.ensures.value c.split.new.self none.2 ∙ c.loop-place.invariant.same;
      spent = place-so_far view items c.loop-place.place place c.index_mut.result.now c.index_mut.ensures.value seen c.loop-place.invariant.same (λ level. level.remaining ≡ []) c.loop-place.invariant.spent none.0;
      kept = none.1 ∙ c.loop-place.invariant.kept;
    }

pub returns-in_err-split-clause-err : goal.returns-in_err-split-clause-err
returns-in_err-split-clause-err g c =
    let remaining = g.P.Problem.remaining c.args.problem.now in
    let view = level_of remaining in
    let items = c.loop-place.self-inside.levels.items in
    let seen = levels remaining c.args.self.now in
    let place : c.loop-place.place < length items = omega (arith, c.self.inside.levels.ok.0, ap length c.self.view_is, ap length c.loop-place.invariant.same, length-map items view, length-map c.args.self.now view) in
    let moves = rw c.loop-place.invariant.kept at c.in_err-split.ensures.err in
    let lowest = lowest-at view items c.loop-place.place place c.index_mut.result.now c.index_mut.ensures.value seen c.loop-place.invariant.same c.split.new.self c.args.into.now.items c.split.new.into.items c.loop-place.invariant.spent moves in
    OnErr-always c.from_residual.result _ lowest

pub returns-in_err-split-clause-to_come : goal.returns-in_err-split-clause-to_come
returns-in_err-split-clause-to_come g c =
    let remaining = g.P.Problem.remaining c.args.problem.now in
    let view = level_of remaining in
    let items = c.loop-place.self-inside.levels.items in
    let seen = levels remaining c.args.self.now in
    let place : c.loop-place.place < length items = omega (arith, c.self.inside.levels.ok.0, ap length c.self.view_is, ap length c.loop-place.invariant.same, length-map items view, length-map c.args.self.now view) in
    let moves = rw c.loop-place.invariant.kept at c.in_err-split.ensures.err in
    let lowest = lowest-at view items c.loop-place.place place c.index_mut.result.now c.index_mut.ensures.value seen c.loop-place.invariant.same c.split.new.self c.args.into.now.items c.split.new.into.items c.loop-place.invariant.spent moves in
    split-to_come g.P.Problem c.args.problem.now c.args.self.now (set items c.loop-place.place c.split.new.self) c.args.into.now.items c.split.new.into.items lowest

pub returns-in_err-split-clause-levels_open : goal.returns-in_err-split-clause-levels_open
returns-in_err-split-clause-levels_open g c =
    let remaining = g.P.Problem.remaining c.args.problem.now in
    let view = level_of remaining in
    let items = c.loop-place.self-inside.levels.items in
    let seen = levels remaining c.args.self.now in
    let place : c.loop-place.place < length items = omega (arith, c.self.inside.levels.ok.0, ap length c.self.view_is, ap length c.loop-place.invariant.same, length-map items view, length-map c.args.self.now view) in
    let moves = rw c.loop-place.invariant.kept at c.in_err-split.ensures.err in
    let lowest = lowest-at view items c.loop-place.place place c.index_mut.result.now c.index_mut.ensures.value seen c.loop-place.invariant.same c.split.new.self c.args.into.now.items c.split.new.into.items c.loop-place.invariant.spent moves in
    split-open g.P.Problem c.args.problem.now (g.P.Problem.ranked c.args.problem.now) c.args.self.now (set items c.loop-place.place c.split.new.self) c.args.into.now.items c.split.new.into.items lowest

pub returns-then-branch-clause-ok : goal.returns-then-branch-clause-ok
returns-then-branch-clause-ok g c =
    let remaining = g.P.Problem.remaining c.args.problem.now in
    let view = level_of remaining in
    let items = c.loop-place.self-inside.levels.items in
    let seen = levels remaining c.args.self.now in
    let place : c.loop-place.place < length items = omega (arith, c.self.inside.levels.ok.0, ap length c.self.view_is, ap length c.loop-place.invariant.same, length-map items view, length-map c.args.self.now view) in
    let some = rw (c.if-branch.true, c.loop-place.invariant.kept) at c.in_ok-split.ensures.ok in
    let lowest = lowest-at view items c.loop-place.place place c.index_mut.result.now c.index_mut.ensures.value seen c.loop-place.invariant.same c.split.new.self c.args.into.now.items c.split.new.into.items c.loop-place.invariant.spent some.0 in
    inr (lowest, some.1)

pub returns-then-branch-clause-to_come : goal.returns-then-branch-clause-to_come
returns-then-branch-clause-to_come g c =
    let remaining = g.P.Problem.remaining c.args.problem.now in
    let view = level_of remaining in
    let items = c.loop-place.self-inside.levels.items in
    let seen = levels remaining c.args.self.now in
    let place : c.loop-place.place < length items = omega (arith, c.self.inside.levels.ok.0, ap length c.self.view_is, ap length c.loop-place.invariant.same, length-map items view, length-map c.args.self.now view) in
    let some = rw (c.if-branch.true, c.loop-place.invariant.kept) at c.in_ok-split.ensures.ok in
    let lowest = lowest-at view items c.loop-place.place place c.index_mut.result.now c.index_mut.ensures.value seen c.loop-place.invariant.same c.split.new.self c.args.into.now.items c.split.new.into.items c.loop-place.invariant.spent some.0 in
    split-to_come g.P.Problem c.args.problem.now c.args.self.now (set items c.loop-place.place c.split.new.self) c.args.into.now.items c.split.new.into.items lowest

pub returns-then-branch-clause-levels_open : goal.returns-then-branch-clause-levels_open
returns-then-branch-clause-levels_open g c =
    let remaining = g.P.Problem.remaining c.args.problem.now in
    let view = level_of remaining in
    let items = c.loop-place.self-inside.levels.items in
    let seen = levels remaining c.args.self.now in
    let place : c.loop-place.place < length items = omega (arith, c.self.inside.levels.ok.0, ap length c.self.view_is, ap length c.loop-place.invariant.same, length-map items view, length-map c.args.self.now view) in
    let some = rw (c.if-branch.true, c.loop-place.invariant.kept) at c.in_ok-split.ensures.ok in
    let lowest = lowest-at view items c.loop-place.place place c.index_mut.result.now c.index_mut.ensures.value seen c.loop-place.invariant.same c.split.new.self c.args.into.now.items c.split.new.into.items c.loop-place.invariant.spent some.0 in
    split-open g.P.Problem c.args.problem.now (g.P.Problem.ranked c.args.problem.now) c.args.self.now (set items c.loop-place.place c.split.new.self) c.args.into.now.items c.split.new.into.items lowest

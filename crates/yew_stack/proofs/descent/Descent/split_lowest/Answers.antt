use Rattle.std.proofs.Common.{◌≡◌, ◌+◌, ◌≤◌, ◌<◌, [], length, set, take, map, refl, ap, sym, subst, inl, inr, ◌∙◌, arith}
use Rattle.std.specs.List.{AllByRecursion}
use Rattle.std.proofs.lemmas.List.{length-map, length-set, take_all}
use Rattle.yew_stack.specs.Descents.{level_at, levels_along}
use Rattle.yew_stack.specs.Levels.{level_of, levels, IsNumbered, AreSpent}
use Rattle.yew_stack.specs.Splits.{MovesLowest, IsChunk}
use Rattle.yew_stack.proofs.Along.{along-length, along-get, along-set}
use Rattle.yew_stack.proofs.Places.{OnErr-always, place-All, place-same, place-so_far}
use Rattle.yew_stack.proofs.Moving.{lowest-at}
use Rattle.yew_stack.proofs.Coming.{split-to_come, split-open, none-to_come, none-open}
use Rattle.yew_stack.proofs.descent.Descent.split_lowest.Goals as goal

pub loop-place-init : goal.loop-place-init
loop-place-init g c =
    record {
      within = c.self.invariant;
      short = omega (arith, c.numbers-steps.type_inv.0, ap length c.numbers-steps.ensures.value);
      same = ap (λ v. levels (g.P.Problem.remaining c.args.problem.now) v.levels) c.self.view_is;
      spent = tt;
      kept = refl;
      stays = (ap (λ v. v.path) c.self.view_is, ap (λ v. v.first) c.self.view_is);
    }

pub invariant_of-self : goal.invariant_of-self
invariant_of-self g c =
    c.loop-place.invariant.within

pub index_mut-requires : goal.index_mut-requires
index_mut-requires g c =
    let remaining = g.P.Problem.remaining c.args.problem.now in
    let view = level_of remaining in
    let rungs = c.loop-place.self-inside.rungs.items in
    let path = c.loop-place.self-inside.path.numbers in
    let first = c.loop-place.self-inside.first in
    let seen = levels remaining c.args.self.now.levels in
    let before = c.loop-place.invariant in
    let place : c.loop-place.place < length rungs = omega (arith, c.self.inside.rungs.ok.0, c.len-place-end.ensures, ap (λ v. length v.levels) c.self.view_is, ap length before.same, length-map (levels_along path first rungs) view, length-map c.args.self.now.levels view, along-length path first rungs, along-length c.self.inside.path.numbers c.self.inside.first c.self.inside.rungs.items) in
    let level_place : c.loop-place.place < length (levels_along path first rungs) = omega (arith, place, along-length path first rungs) in
    omega (arith, place, c.loop-place.self-inside.rungs.ok.0)

pub overflow_add-self-inside : goal.overflow_add-self-inside
overflow_add-self-inside g c =
    let remaining = g.P.Problem.remaining c.args.problem.now in
    let view = level_of remaining in
    let rungs = c.loop-place.self-inside.rungs.items in
    let path = c.loop-place.self-inside.path.numbers in
    let first = c.loop-place.self-inside.first in
    let seen = levels remaining c.args.self.now.levels in
    let before = c.loop-place.invariant in
    let place : c.loop-place.place < length rungs = omega (arith, c.self.inside.rungs.ok.0, c.len-place-end.ensures, ap (λ v. length v.levels) c.self.view_is, ap length before.same, length-map (levels_along path first rungs) view, length-map c.args.self.now.levels view, along-length path first rungs, along-length c.self.inside.path.numbers c.self.inside.first c.self.inside.rungs.items) in
    let level_place : c.loop-place.place < length (levels_along path first rungs) = omega (arith, place, along-length path first rungs) in
    omega (arith, place, before.within, before.short)

pub split-requires-clause-sound : goal.split-requires-clause-sound
split-requires-clause-sound g c κs within =
    let remaining = g.P.Problem.remaining c.args.problem.now in
    let view = level_of remaining in
    let rungs = c.loop-place.self-inside.rungs.items in
    let path = c.loop-place.self-inside.path.numbers in
    let first = c.loop-place.self-inside.first in
    let seen = levels remaining c.args.self.now.levels in
    let before = c.loop-place.invariant in
    let place : c.loop-place.place < length rungs = omega (arith, c.self.inside.rungs.ok.0, c.len-place-end.ensures, ap (λ v. length v.levels) c.self.view_is, ap length before.same, length-map (levels_along path first rungs) view, length-map c.args.self.now.levels view, along-length path first rungs, along-length c.self.inside.path.numbers c.self.inside.first c.self.inside.rungs.items) in
    let level_place : c.loop-place.place < length (levels_along path first rungs) = omega (arith, place, along-length path first rungs) in
    let rung = c.index_mut.result.now in
    let at_rung = along-get path first rungs c.loop-place.place rung place c.index_mut.ensures.value in
    let node_path = take (first + c.loop-place.place) path in
    place-All view (levels_along path first rungs) c.loop-place.place level_place (level_at node_path rung) at_rung (λ level. AllByRecursion (g.P.Problem.sound c.args.problem.now) level.remaining) (rw before.same c.requires.sound)

pub split-requires-clause-numbered : goal.split-requires-clause-numbered
split-requires-clause-numbered g c κs within =
    let remaining = g.P.Problem.remaining c.args.problem.now in
    let view = level_of remaining in
    let rungs = c.loop-place.self-inside.rungs.items in
    let path = c.loop-place.self-inside.path.numbers in
    let first = c.loop-place.self-inside.first in
    let seen = levels remaining c.args.self.now.levels in
    let before = c.loop-place.invariant in
    let place : c.loop-place.place < length rungs = omega (arith, c.self.inside.rungs.ok.0, c.len-place-end.ensures, ap (λ v. length v.levels) c.self.view_is, ap length before.same, length-map (levels_along path first rungs) view, length-map c.args.self.now.levels view, along-length path first rungs, along-length c.self.inside.path.numbers c.self.inside.first c.self.inside.rungs.items) in
    let level_place : c.loop-place.place < length (levels_along path first rungs) = omega (arith, place, along-length path first rungs) in
    let rung = c.index_mut.result.now in
    let at_rung = along-get path first rungs c.loop-place.place rung place c.index_mut.ensures.value in
    let node_path = take (first + c.loop-place.place) path in
    place-All view (levels_along path first rungs) c.loop-place.place level_place (level_at node_path rung) at_rung IsNumbered (rw before.same c.requires.numbered)

pub split-requires-clause-depth : goal.split-requires-clause-depth
split-requires-clause-depth g c κs within =
    let remaining = g.P.Problem.remaining c.args.problem.now in
    let view = level_of remaining in
    let rungs = c.loop-place.self-inside.rungs.items in
    let path = c.loop-place.self-inside.path.numbers in
    let first = c.loop-place.self-inside.first in
    let seen = levels remaining c.args.self.now.levels in
    let before = c.loop-place.invariant in
    let place : c.loop-place.place < length rungs = omega (arith, c.self.inside.rungs.ok.0, c.len-place-end.ensures, ap (λ v. length v.levels) c.self.view_is, ap length before.same, length-map (levels_along path first rungs) view, length-map c.args.self.now.levels view, along-length path first rungs, along-length c.self.inside.path.numbers c.self.inside.first c.self.inside.rungs.items) in
    let level_place : c.loop-place.place < length (levels_along path first rungs) = omega (arith, place, along-length path first rungs) in
    omega (arith, place, before.within)

pub invariant_of-self-in_err-split : goal.invariant_of-self-in_err-split
invariant_of-self-in_err-split g c =
    omega (arith, c.loop-place.invariant.within, length-set c.loop-place.self-inside.rungs.items c.loop-place.place c.split.new.self)

pub returns-in_err-split-clause-err : goal.returns-in_err-split-clause-err
returns-in_err-split-clause-err g c =
    let remaining = g.P.Problem.remaining c.args.problem.now in
    let view = level_of remaining in
    let rungs = c.loop-place.self-inside.rungs.items in
    let path = c.loop-place.self-inside.path.numbers in
    let first = c.loop-place.self-inside.first in
    let seen = levels remaining c.args.self.now.levels in
    let before = c.loop-place.invariant in
    let place : c.loop-place.place < length rungs = omega (arith, c.self.inside.rungs.ok.0, c.len-place-end.ensures, ap (λ v. length v.levels) c.self.view_is, ap length before.same, length-map (levels_along path first rungs) view, length-map c.args.self.now.levels view, along-length path first rungs, along-length c.self.inside.path.numbers c.self.inside.first c.self.inside.rungs.items) in
    let level_place : c.loop-place.place < length (levels_along path first rungs) = omega (arith, place, along-length path first rungs) in
    let rung = c.index_mut.result.now in
    let at_rung = along-get path first rungs c.loop-place.place rung place c.index_mut.ensures.value in
    let node_path = take (first + c.loop-place.place) path in
    let after = c.split.new.self in
    let set_is : map view (levels_along path first (set rungs c.loop-place.place after)) ≡ map view (set (levels_along path first rungs) c.loop-place.place (level_at node_path after)) = ap (map view) (along-set path first rungs c.loop-place.place after) in
    let moves = rw before.kept at c.in_err-split.ensures.err in
    let lowest : MovesLowest seen c.args.into.now.items c.split.new.into.items (map view (levels_along path first (set rungs c.loop-place.place after))) =
    subst (λ ls. MovesLowest seen c.args.into.now.items c.split.new.into.items ls) (sym set_is)
    (lowest-at view (levels_along path first rungs) c.loop-place.place level_place (level_at node_path rung) at_rung seen before.same (level_at node_path after) c.args.into.now.items c.split.new.into.items before.spent moves) in
    OnErr-always c.from_residual.result _ lowest

pub returns-in_err-split-clause-to_come : goal.returns-in_err-split-clause-to_come
returns-in_err-split-clause-to_come g c =
    let remaining = g.P.Problem.remaining c.args.problem.now in
    let view = level_of remaining in
    let rungs = c.loop-place.self-inside.rungs.items in
    let path = c.loop-place.self-inside.path.numbers in
    let first = c.loop-place.self-inside.first in
    let seen = levels remaining c.args.self.now.levels in
    let before = c.loop-place.invariant in
    let place : c.loop-place.place < length rungs = omega (arith, c.self.inside.rungs.ok.0, c.len-place-end.ensures, ap (λ v. length v.levels) c.self.view_is, ap length before.same, length-map (levels_along path first rungs) view, length-map c.args.self.now.levels view, along-length path first rungs, along-length c.self.inside.path.numbers c.self.inside.first c.self.inside.rungs.items) in
    let level_place : c.loop-place.place < length (levels_along path first rungs) = omega (arith, place, along-length path first rungs) in
    let rung = c.index_mut.result.now in
    let at_rung = along-get path first rungs c.loop-place.place rung place c.index_mut.ensures.value in
    let node_path = take (first + c.loop-place.place) path in
    let after = c.split.new.self in
    let set_is : map view (levels_along path first (set rungs c.loop-place.place after)) ≡ map view (set (levels_along path first rungs) c.loop-place.place (level_at node_path after)) = ap (map view) (along-set path first rungs c.loop-place.place after) in
    let moves = rw before.kept at c.in_err-split.ensures.err in
    let lowest : MovesLowest seen c.args.into.now.items c.split.new.into.items (map view (levels_along path first (set rungs c.loop-place.place after))) =
    subst (λ ls. MovesLowest seen c.args.into.now.items c.split.new.into.items ls) (sym set_is)
    (lowest-at view (levels_along path first rungs) c.loop-place.place level_place (level_at node_path rung) at_rung seen before.same (level_at node_path after) c.args.into.now.items c.split.new.into.items before.spent moves) in
    split-to_come g.P.Problem c.args.problem.now c.args.self.now.levels (levels_along path first (set rungs c.loop-place.place after)) c.args.into.now.items c.split.new.into.items lowest

pub returns-in_err-split-clause-levels_open : goal.returns-in_err-split-clause-levels_open
returns-in_err-split-clause-levels_open g c =
    let remaining = g.P.Problem.remaining c.args.problem.now in
    let view = level_of remaining in
    let rungs = c.loop-place.self-inside.rungs.items in
    let path = c.loop-place.self-inside.path.numbers in
    let first = c.loop-place.self-inside.first in
    let seen = levels remaining c.args.self.now.levels in
    let before = c.loop-place.invariant in
    let place : c.loop-place.place < length rungs = omega (arith, c.self.inside.rungs.ok.0, c.len-place-end.ensures, ap (λ v. length v.levels) c.self.view_is, ap length before.same, length-map (levels_along path first rungs) view, length-map c.args.self.now.levels view, along-length path first rungs, along-length c.self.inside.path.numbers c.self.inside.first c.self.inside.rungs.items) in
    let level_place : c.loop-place.place < length (levels_along path first rungs) = omega (arith, place, along-length path first rungs) in
    let rung = c.index_mut.result.now in
    let at_rung = along-get path first rungs c.loop-place.place rung place c.index_mut.ensures.value in
    let node_path = take (first + c.loop-place.place) path in
    let after = c.split.new.self in
    let set_is : map view (levels_along path first (set rungs c.loop-place.place after)) ≡ map view (set (levels_along path first rungs) c.loop-place.place (level_at node_path after)) = ap (map view) (along-set path first rungs c.loop-place.place after) in
    let moves = rw before.kept at c.in_err-split.ensures.err in
    let lowest : MovesLowest seen c.args.into.now.items c.split.new.into.items (map view (levels_along path first (set rungs c.loop-place.place after))) =
    subst (λ ls. MovesLowest seen c.args.into.now.items c.split.new.into.items ls) (sym set_is)
    (lowest-at view (levels_along path first rungs) c.loop-place.place level_place (level_at node_path rung) at_rung seen before.same (level_at node_path after) c.args.into.now.items c.split.new.into.items before.spent moves) in
    split-open g.P.Problem c.args.problem.now (g.P.Problem.ranked c.args.problem.now) c.args.self.now.levels (levels_along path first (set rungs c.loop-place.place after)) c.args.into.now.items c.split.new.into.items lowest

pub invariant_of-self-then-branch : goal.invariant_of-self-then-branch
invariant_of-self-then-branch g c =
    omega (arith, c.loop-place.invariant.within, length-set c.loop-place.self-inside.rungs.items c.loop-place.place c.split.new.self)

pub returns-then-branch-clause-ok : goal.returns-then-branch-clause-ok
returns-then-branch-clause-ok g c =
    let remaining = g.P.Problem.remaining c.args.problem.now in
    let view = level_of remaining in
    let rungs = c.loop-place.self-inside.rungs.items in
    let path = c.loop-place.self-inside.path.numbers in
    let first = c.loop-place.self-inside.first in
    let seen = levels remaining c.args.self.now.levels in
    let before = c.loop-place.invariant in
    let place : c.loop-place.place < length rungs = omega (arith, c.self.inside.rungs.ok.0, c.len-place-end.ensures, ap (λ v. length v.levels) c.self.view_is, ap length before.same, length-map (levels_along path first rungs) view, length-map c.args.self.now.levels view, along-length path first rungs, along-length c.self.inside.path.numbers c.self.inside.first c.self.inside.rungs.items) in
    let level_place : c.loop-place.place < length (levels_along path first rungs) = omega (arith, place, along-length path first rungs) in
    let rung = c.index_mut.result.now in
    let at_rung = along-get path first rungs c.loop-place.place rung place c.index_mut.ensures.value in
    let node_path = take (first + c.loop-place.place) path in
    let after = c.split.new.self in
    let set_is : map view (levels_along path first (set rungs c.loop-place.place after)) ≡ map view (set (levels_along path first rungs) c.loop-place.place (level_at node_path after)) = ap (map view) (along-set path first rungs c.loop-place.place after) in
    let some = rw (c.if-branch.true, before.kept) at c.in_ok-split.ensures.ok in
    let moves = some.0 in
    inr (subst (λ ls. (m : MovesLowest seen c.args.into.now.items c.split.new.into.items ls) × IsChunk c.args.chunk (length m.moves.moved) m.rest) (sym set_is)
    (lowest-at view (levels_along path first rungs) c.loop-place.place level_place (level_at node_path rung) at_rung seen before.same (level_at node_path after) c.args.into.now.items c.split.new.into.items before.spent moves, some.1))

pub returns-then-branch-clause-to_come : goal.returns-then-branch-clause-to_come
returns-then-branch-clause-to_come g c =
    let remaining = g.P.Problem.remaining c.args.problem.now in
    let view = level_of remaining in
    let rungs = c.loop-place.self-inside.rungs.items in
    let path = c.loop-place.self-inside.path.numbers in
    let first = c.loop-place.self-inside.first in
    let seen = levels remaining c.args.self.now.levels in
    let before = c.loop-place.invariant in
    let place : c.loop-place.place < length rungs = omega (arith, c.self.inside.rungs.ok.0, c.len-place-end.ensures, ap (λ v. length v.levels) c.self.view_is, ap length before.same, length-map (levels_along path first rungs) view, length-map c.args.self.now.levels view, along-length path first rungs, along-length c.self.inside.path.numbers c.self.inside.first c.self.inside.rungs.items) in
    let level_place : c.loop-place.place < length (levels_along path first rungs) = omega (arith, place, along-length path first rungs) in
    let rung = c.index_mut.result.now in
    let at_rung = along-get path first rungs c.loop-place.place rung place c.index_mut.ensures.value in
    let node_path = take (first + c.loop-place.place) path in
    let after = c.split.new.self in
    let set_is : map view (levels_along path first (set rungs c.loop-place.place after)) ≡ map view (set (levels_along path first rungs) c.loop-place.place (level_at node_path after)) = ap (map view) (along-set path first rungs c.loop-place.place after) in
    let some = rw (c.if-branch.true, before.kept) at c.in_ok-split.ensures.ok in
    let moves = some.0 in
    let lowest : MovesLowest seen c.args.into.now.items c.split.new.into.items (map view (levels_along path first (set rungs c.loop-place.place after))) =
    subst (λ ls. MovesLowest seen c.args.into.now.items c.split.new.into.items ls) (sym set_is)
    (lowest-at view (levels_along path first rungs) c.loop-place.place level_place (level_at node_path rung) at_rung seen before.same (level_at node_path after) c.args.into.now.items c.split.new.into.items before.spent moves) in
    split-to_come g.P.Problem c.args.problem.now c.args.self.now.levels (levels_along path first (set rungs c.loop-place.place after)) c.args.into.now.items c.split.new.into.items lowest

pub returns-then-branch-clause-levels_open : goal.returns-then-branch-clause-levels_open
returns-then-branch-clause-levels_open g c =
    let remaining = g.P.Problem.remaining c.args.problem.now in
    let view = level_of remaining in
    let rungs = c.loop-place.self-inside.rungs.items in
    let path = c.loop-place.self-inside.path.numbers in
    let first = c.loop-place.self-inside.first in
    let seen = levels remaining c.args.self.now.levels in
    let before = c.loop-place.invariant in
    let place : c.loop-place.place < length rungs = omega (arith, c.self.inside.rungs.ok.0, c.len-place-end.ensures, ap (λ v. length v.levels) c.self.view_is, ap length before.same, length-map (levels_along path first rungs) view, length-map c.args.self.now.levels view, along-length path first rungs, along-length c.self.inside.path.numbers c.self.inside.first c.self.inside.rungs.items) in
    let level_place : c.loop-place.place < length (levels_along path first rungs) = omega (arith, place, along-length path first rungs) in
    let rung = c.index_mut.result.now in
    let at_rung = along-get path first rungs c.loop-place.place rung place c.index_mut.ensures.value in
    let node_path = take (first + c.loop-place.place) path in
    let after = c.split.new.self in
    let set_is : map view (levels_along path first (set rungs c.loop-place.place after)) ≡ map view (set (levels_along path first rungs) c.loop-place.place (level_at node_path after)) = ap (map view) (along-set path first rungs c.loop-place.place after) in
    let some = rw (c.if-branch.true, before.kept) at c.in_ok-split.ensures.ok in
    let moves = some.0 in
    let lowest : MovesLowest seen c.args.into.now.items c.split.new.into.items (map view (levels_along path first (set rungs c.loop-place.place after))) =
    subst (λ ls. MovesLowest seen c.args.into.now.items c.split.new.into.items ls) (sym set_is)
    (lowest-at view (levels_along path first rungs) c.loop-place.place level_place (level_at node_path rung) at_rung seen before.same (level_at node_path after) c.args.into.now.items c.split.new.into.items before.spent moves) in
    split-open g.P.Problem c.args.problem.now (g.P.Problem.ranked c.args.problem.now) c.args.self.now.levels (levels_along path first (set rungs c.loop-place.place after)) c.args.into.now.items c.split.new.into.items lowest

pub loop-place-preserved : goal.loop-place-preserved
loop-place-preserved g c =
    let remaining = g.P.Problem.remaining c.args.problem.now in
    let view = level_of remaining in
    let rungs = c.loop-place.self-inside.rungs.items in
    let path = c.loop-place.self-inside.path.numbers in
    let first = c.loop-place.self-inside.first in
    let seen = levels remaining c.args.self.now.levels in
    let before = c.loop-place.invariant in
    let place : c.loop-place.place < length rungs = omega (arith, c.self.inside.rungs.ok.0, c.len-place-end.ensures, ap (λ v. length v.levels) c.self.view_is, ap length before.same, length-map (levels_along path first rungs) view, length-map c.args.self.now.levels view, along-length path first rungs, along-length c.self.inside.path.numbers c.self.inside.first c.self.inside.rungs.items) in
    let level_place : c.loop-place.place < length (levels_along path first rungs) = omega (arith, place, along-length path first rungs) in
    let rung = c.index_mut.result.now in
    let at_rung = along-get path first rungs c.loop-place.place rung place c.index_mut.ensures.value in
    let node_path = take (first + c.loop-place.place) path in
    let after = c.split.new.self in
    let set_is : map view (levels_along path first (set rungs c.loop-place.place after)) ≡ map view (set (levels_along path first rungs) c.loop-place.place (level_at node_path after)) = ap (map view) (along-set path first rungs c.loop-place.place after) in
    let none = rw c.if-branch.false at c.in_ok-split.ensures.ok in
    record {
      within = omega (arith, before.within, length-set rungs c.loop-place.place after);
      short = before.short;
      same = set_is ∙ place-same view (levels_along path first rungs) c.loop-place.place level_place (level_at node_path rung) at_rung (level_at node_path after) none.2 ∙ before.same;
      spent = place-so_far view (levels_along path first rungs) c.loop-place.place level_place (level_at node_path rung) at_rung seen before.same (λ level. level.remaining ≡ []) before.spent none.0;
      kept = none.1 ∙ before.kept;
      stays = before.stays;
    }

pub returns-clause-ok : goal.returns-clause-ok
returns-clause-ok g c =
    let view = level_of (g.P.Problem.remaining c.args.problem.now) in
    let seen = map view c.args.self.now.levels in
    let before = c.loop-place.invariant in
    let many : length seen ≤ c.loop-place.place = omega (arith, c.loop-place-test.false, c.len-place-end.ensures, c.self.inside.rungs.ok.0, ap (λ v. length v.levels) c.self.view_is, length-map c.args.self.now.levels view, along-length c.self.inside.path.numbers c.self.inside.first c.self.inside.rungs.items) in
    inl (subst (λ ls. AreSpent ls) (take_all c.loop-place.place seen many) before.spent, before.kept, before.same)

pub returns-clause-to_come : goal.returns-clause-to_come
returns-clause-to_come g c =
    let before = c.loop-place.invariant in
    none-to_come g.P.Problem c.args.problem.now c.args.self.now.levels (levels_along c.loop-place.self-inside.path.numbers c.loop-place.self-inside.first c.loop-place.self-inside.rungs.items) c.args.into.now.items c.loop-place.into.items before.same before.kept

pub returns-clause-levels_open : goal.returns-clause-levels_open
returns-clause-levels_open g c =
    let before = c.loop-place.invariant in
    none-open g.P.Problem c.args.problem.now c.args.self.now.levels (levels_along c.loop-place.self-inside.path.numbers c.loop-place.self-inside.first c.loop-place.self-inside.rungs.items) c.args.into.now.items c.loop-place.into.items before.same before.kept

pub returns-in_err-split-clause-path : goal.returns-in_err-split-clause-path
returns-in_err-split-clause-path g c = c.loop-place.invariant.stays

pub returns-then-branch-clause-path : goal.returns-then-branch-clause-path
returns-then-branch-clause-path g c = c.loop-place.invariant.stays

pub returns-clause-path : goal.returns-clause-path
returns-clause-path g c = c.loop-place.invariant.stays

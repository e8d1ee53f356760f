use Rattle.std.proofs.Common.{◌-◌, [], ◌∷◌, ◌++◌, set, map, take, sym, ap, ◌∙◌, arith}
use Rattle.std.specs.List.{AllByRecursion}
use Rattle.std.proofs.lemmas.List.{map_push}
use Rattle.yew_stack.specs.Levels.{level_of, IsNumbered}
use Rattle.yew_stack.proofs.Places.{OnErr-always, place-All, map-last, map-set_last, last-place, at_none, set_last-parts}
use Rattle.yew_stack.proofs.Coming.{gives-to_come, gives-open, ends-to_come, ends-open}
use Rattle.yew_stack.proofs.stacks.GenStack.next.Goals as goal

pub advance-requires-clause-sound : goal.advance-requires-clause-sound
advance-requires-clause-sound g c κs within =
    let problem = c.args.problem.now in
    let view = level_of (g.P.Problem.remaining problem) in
    let kept = c.self.inside.levels in
    let last = last-place kept c.len-top.result c.is_empty.result c.len-top.ensures c.is_empty.ensures c.if-is_empty.false in
    place-All view kept.items (c.len-top.result - 1) (omega arith) c.index_mut.result.now c.index_mut.ensures.value (λ level. AllByRecursion (g.P.Problem.sound problem) level.remaining) (rw c.self.view_is c.requires.sound)

pub advance-requires-clause-numbered : goal.advance-requires-clause-numbered
advance-requires-clause-numbered g c κs within =
    let problem = c.args.problem.now in
    let view = level_of (g.P.Problem.remaining problem) in
    let kept = c.self.inside.levels in
    let last = last-place kept c.len-top.result c.is_empty.result c.len-top.ensures c.is_empty.ensures c.if-is_empty.false in
    place-All view kept.items (c.len-top.result - 1) (omega arith) c.index_mut.result.now c.index_mut.ensures.value IsNumbered (rw c.self.view_is c.requires.numbered)

pub returns-in_err-task-clause-err : goal.returns-in_err-task-clause-err
returns-in_err-task-clause-err g c =
    let view = level_of (g.P.Problem.remaining c.args.problem.now) in
    let kept = c.self.inside.levels in
    let i = c.len-top.result - 1 in
    let last = last-place kept c.len-top.result c.is_empty.result c.len-top.ensures c.is_empty.ensures c.if-is_empty.false in
    OnErr-always c.from_residual.result _
    (map-set_last view kept.items i last c.advance.new.self
    ∙ ap (λ level. map view (take i kept.items) ++ level ∷ []) c.in_err-task.ensures.err
    ∙ sym (map-last view kept.items i last c.index_mut.result.now c.index_mut.ensures.value)
    ∙ ap (map view) c.self.view_is)

pub returns-in-Some-clause-ok : goal.returns-in-Some-clause-ok
returns-in-Some-clause-ok g c =
    let view = level_of (g.P.Problem.remaining c.args.problem.now) in
    let kept = c.self.inside.levels in
    let i = c.len-top.result - 1 in
    let last = last-place kept c.len-top.result c.is_empty.result c.len-top.ensures c.is_empty.ensures c.if-is_empty.false in
    record {
      lower = map view (take i kept.items);
      top = view c.index_mut.result.now;
      rest = view c.advance.new.self;
      old_is = ap (map view) (sym c.self.view_is) ∙ map-last view kept.items i last c.index_mut.result.now c.index_mut.ensures.value;
      new_is = map-set_last view kept.items i last c.advance.new.self;
      gives = rw c.in-Some.is at c.in_ok-task.ensures.ok;
    }

pub returns-in-Some-pop-clause-ok : goal.returns-in-Some-pop-clause-ok
returns-in-Some-pop-clause-ok g c =
    let remaining = g.P.Problem.remaining c.args.problem.now in
    let view = level_of remaining in
    let kept = c.self.inside.levels in
    let i = c.len-top.result - 1 in
    let last = last-place kept c.len-top.result c.is_empty.result c.len-top.ensures c.is_empty.ensures c.if-is_empty.false in
    let none = at_none c.in_ok-task.field-0 _ _ c.in_default.not-Some c.in_ok-task.ensures.ok in
    let popped = set_last-parts kept.items i last c.advance.new.self c.pop.new.self.items c.in-Some-pop.level c.in-Some-pop.ensures.items in
    record {
      top = view c.in-Some-pop.level;
      old_is = ap (map view) (sym c.self.view_is)
          ∙ map-last view kept.items i last c.index_mut.result.now c.index_mut.ensures.value
          ∙ ap (λ level. map view (take i kept.items) ++ level ∷ []) (sym none.1)
          ∙ sym (map-set_last view kept.items i last c.advance.new.self)
          ∙ ap (map view) c.in-Some-pop.ensures.items
          ∙ map_push view c.pop.new.self.items c.in-Some-pop.level;
      spent = ap (λ level. remaining level.kids) popped ∙ ap (λ level. level.remaining) none.1 ∙ none.0;
      parent_is = sym c.into_parent.ensures;
    }

pub returns-in-Some-clause-to_come : goal.returns-in-Some-clause-to_come
returns-in-Some-clause-to_come g c =
    let turn = returns-in-Some-clause-ok g c in
    gives-to_come g.P.Problem c.args.problem.now c.args.self.now (set c.self.inside.levels.items (c.len-top.result - 1) c.advance.new.self) c.in-Some.task turn

pub returns-in-Some-clause-levels_open : goal.returns-in-Some-clause-levels_open
returns-in-Some-clause-levels_open g c =
    let turn = returns-in-Some-clause-ok g c in
    gives-open g.P.Problem c.args.problem.now (g.P.Problem.ranked c.args.problem.now) c.args.self.now (set c.self.inside.levels.items (c.len-top.result - 1) c.advance.new.self) c.in-Some.task turn

pub returns-in-Some-pop-clause-to_come : goal.returns-in-Some-pop-clause-to_come
returns-in-Some-pop-clause-to_come g c =
    let turn = returns-in-Some-pop-clause-ok g c in
    ends-to_come g.P.Problem c.args.problem.now c.args.self.now c.pop.new.self.items c.into_parent.result.numbers turn

pub returns-in-Some-pop-clause-levels_open : goal.returns-in-Some-pop-clause-levels_open
returns-in-Some-pop-clause-levels_open g c =
    let turn = returns-in-Some-pop-clause-ok g c in
    λ all. (ends-open g.P.Problem c.args.problem.now c.args.self.now c.pop.new.self.items c.into_parent.result.numbers turn all, tt)

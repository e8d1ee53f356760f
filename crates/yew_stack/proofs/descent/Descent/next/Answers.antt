use Rattle.std.proofs.Common.{◌≡◌, ◌+◌, ◌-◌, [], ◌∷◌, ◌++◌, set, map, take, length, sym, ap, ap₂, refl, ◌∙◌, arith, length-append}
use Rattle.std.specs.List.{AllByRecursion}
use Rattle.std.proofs.lemmas.List.{length-set}
use Rattle.yew_stack.specs.Levels.{level_of, IsNumbered}
use Rattle.yew_stack.specs.Descents.{level_at, levels_along}
use Rattle.yew_stack.proofs.Along.{along-length, along-same, along-get, along-set, along-take, take-front, take-twice, take-length, take-set, get_or-any}
use Rattle.yew_stack.proofs.Places.{OnErr-always, place-All, place-same, map-last, map-set_last, last-place}
use Rattle.yew_stack.proofs.Coming.{gives-open, ends-open}
use Rattle.yew_stack.proofs.descent.Descent.next.Goals as goal

pub advance-requires-clause-sound : goal.advance-requires-clause-sound
advance-requires-clause-sound g c κs within =
    let problem = c.args.problem.now in
    let view = level_of (g.P.Problem.remaining problem) in
    let rungs = c.self.inside.rungs.items in
    let path = c.self.inside.path.numbers in
    let first = c.self.inside.first in
    let i = c.len-top.result - 1 in
    let last = last-place c.self.inside.rungs c.len-top.result c.is_empty.result c.len-top.ensures c.is_empty.ensures c.if-is_empty.false in
    let is : levels_along path first rungs ≡ c.args.self.now.levels = ap (λ v. v.levels) c.self.view_is in
    let rung = c.index_mut.result.now in
    place-All view (levels_along path first rungs) i (omega (arith, last, along-length path first rungs)) (level_at (take (first + i) path) rung) (along-get path first rungs i rung (omega (arith, last)) c.index_mut.ensures.value) (λ level. AllByRecursion (g.P.Problem.sound problem) level.remaining) (rw is c.requires.sound)

pub advance-requires-clause-numbered : goal.advance-requires-clause-numbered
advance-requires-clause-numbered g c κs within =
    let problem = c.args.problem.now in
    let view = level_of (g.P.Problem.remaining problem) in
    let rungs = c.self.inside.rungs.items in
    let path = c.self.inside.path.numbers in
    let first = c.self.inside.first in
    let i = c.len-top.result - 1 in
    let last = last-place c.self.inside.rungs c.len-top.result c.is_empty.result c.len-top.ensures c.is_empty.ensures c.if-is_empty.false in
    let is : levels_along path first rungs ≡ c.args.self.now.levels = ap (λ v. v.levels) c.self.view_is in
    let rung = c.index_mut.result.now in
    place-All view (levels_along path first rungs) i (omega (arith, last, along-length path first rungs)) (level_at (take (first + i) path) rung) (along-get path first rungs i rung (omega (arith, last)) c.index_mut.ensures.value) IsNumbered (rw is c.requires.numbered)

pub returns-in_err-node-clause-err : goal.returns-in_err-node-clause-err
returns-in_err-node-clause-err g c =
    let view = level_of (g.P.Problem.remaining c.args.problem.now) in
    let rungs = c.self.inside.rungs.items in
    let path = c.self.inside.path.numbers in
    let first = c.self.inside.first in
    let i = c.len-top.result - 1 in
    let last = last-place c.self.inside.rungs c.len-top.result c.is_empty.result c.len-top.ensures c.is_empty.ensures c.if-is_empty.false in
    let is : levels_along path first rungs ≡ c.args.self.now.levels = ap (λ v. v.levels) c.self.view_is in
    let rung = c.index_mut.result.now in
    let after = c.advance.new.self in
    let shorter : length path - 1 ≡ first + i = omega (arith, last, c.self.invariant) in
    let same : take (first + i) c.set_last.new.self.numbers ≡ take (first + i) path = ap (take (first + i)) (c.set_last.ensures.numbers ∙ ap (λ n. take n path ++ c.behind-self.inside.given ∷ []) shorter) ∙ take-front (first + i) path (c.behind-self.inside.given ∷ []) (omega (arith, last, c.self.invariant)) in
    let kept = c.in_err-node.ensures.err in
    let alike : view (level_at (take (first + i) path) after) ≡ view (level_at (take (first + i) path) rung) = ap₂ (λ n rest. record { parent = take (first + i) path; given = n; remaining = rest }) kept.1 kept.0 in
    OnErr-always c.from_residual.result _
    (ap (map view) (along-same c.set_last.new.self.numbers path (first + i) first (set rungs i after) same (omega (arith, last, length-set rungs i after)) ∙ along-set path first rungs i after)
    ∙ place-same view (levels_along path first rungs) i (omega (arith, last, along-length path first rungs)) (level_at (take (first + i) path) rung) (along-get path first rungs i rung (omega (arith, last)) c.index_mut.ensures.value) (level_at (take (first + i) path) after) alike
    ∙ ap (map view) is)

pub returns-in-Some-clause-ok : goal.returns-in-Some-clause-ok
returns-in-Some-clause-ok g c =
    let view = level_of (g.P.Problem.remaining c.args.problem.now) in
    let rungs = c.self.inside.rungs.items in
    let path = c.self.inside.path.numbers in
    let first = c.self.inside.first in
    let i = c.len-top.result - 1 in
    let last = last-place c.self.inside.rungs c.len-top.result c.is_empty.result c.len-top.ensures c.is_empty.ensures c.if-is_empty.false in
    let last_level : i + 1 ≡ length (levels_along path first rungs) = omega (arith, last, along-length path first rungs) in
    let is : levels_along path first rungs ≡ c.args.self.now.levels = ap (λ v. v.levels) c.self.view_is in
    let rung = c.index_mut.result.now in
    let after = c.advance.new.self in
    let read = c.index.result.now in
    let given : c.behind-self.inside.given ≡ rung.given = ap (λ r. r.given) (c.behind-self.view_is ∙ c.index.ensures ∙ get_or-any rungs i read rung (omega (arith, last)) ∙ sym c.index_mut.ensures.value) in
    let shorter : length path - 1 ≡ first + i = omega (arith, last, c.self.invariant) in
    let same : take (first + i) c.set_last.new.self.numbers ≡ take (first + i) path = ap (take (first + i)) (c.set_last.ensures.numbers ∙ ap (λ n. take n path ++ c.behind-self.inside.given ∷ []) shorter) ∙ take-front (first + i) path (c.behind-self.inside.given ∷ []) (omega (arith, last, c.self.invariant)) in
    let some = rw c.in-Some.is at c.in_ok-node.ensures.ok in
    record {
      lower = map view (take i (levels_along path first rungs));
      top = view (level_at (take (first + i) path) rung);
      rest = view (level_at (take (first + i) path) after);
      old_is = ap (map view) (sym is) ∙ map-last view (levels_along path first rungs) i last_level (level_at (take (first + i) path) rung) (along-get path first rungs i rung (omega (arith, last)) c.index_mut.ensures.value);
      new_is = ap (map view) (along-same c.set_last.new.self.numbers path (first + i) first (set rungs i after) same (omega (arith, last, length-set rungs i after)) ∙ along-set path first rungs i after)
          ∙ map-set_last view (levels_along path first rungs) i last_level (level_at (take (first + i) path) after);
      gives = record {
        path_is = c.set_last.ensures.numbers ∙ ap₂ (λ k n. take k path ++ n ∷ []) shorter given;
        remaining_is = some.0;
        given_is = some.1;
        parent_is = refl;
      };
    }

pub returns-in-Some-clause-levels_open : goal.returns-in-Some-clause-levels_open
returns-in-Some-clause-levels_open g c =
    let turn = returns-in-Some-clause-ok g c in
    gives-open g.P.Problem c.args.problem.now (g.P.Problem.ranked c.args.problem.now) c.args.self.now.levels (levels_along c.set_last.new.self.numbers c.self.inside.first (set c.self.inside.rungs.items (c.len-top.result - 1) c.advance.new.self)) (record { path = record { numbers = c.set_last.new.self.numbers; space = length c.set_last.new.self.numbers }; node = c.in-Some.node }) turn

pub returns-in-None-clause-ok : goal.returns-in-None-clause-ok
returns-in-None-clause-ok g c =
    let view = level_of (g.P.Problem.remaining c.args.problem.now) in
    let rungs = c.self.inside.rungs.items in
    let path = c.self.inside.path.numbers in
    let first = c.self.inside.first in
    let i = c.len-top.result - 1 in
    let last = last-place c.self.inside.rungs c.len-top.result c.is_empty.result c.len-top.ensures c.is_empty.ensures c.if-is_empty.false in
    let last_level : i + 1 ≡ length (levels_along path first rungs) = omega (arith, last, along-length path first rungs) in
    let is : levels_along path first rungs ≡ c.args.self.now.levels = ap (λ v. v.levels) c.self.view_is in
    let rung = c.index_mut.result.now in
    let after = c.advance.new.self in
    let back = c.truncate.new.self.numbers in
    let shorter : length path - 1 ≡ first + i = omega (arith, last, c.self.invariant) in
    let same : take (first + i) c.set_last.new.self.numbers ≡ take (first + i) path = ap (take (first + i)) (c.set_last.ensures.numbers ∙ ap (λ n. take n path ++ c.behind-self.inside.given ∷ []) shorter) ∙ take-front (first + i) path (c.behind-self.inside.given ∷ []) (omega (arith, last, c.self.invariant)) in
    let long = take-length (first + i) path (omega (arith, last, c.self.invariant)) in
    let written = length-append (take (first + i) path) (c.behind-self.inside.given ∷ []) in
    let deep : length c.numbers.result.now - 1 ≡ first + i =
    omega (arith, ap length c.numbers.ensures.value, ap length (c.set_last.ensures.numbers ∙ ap (λ n. take n path ++ c.behind-self.inside.given ∷ []) shorter), long, written) in
    let at_parent : back ≡ take (first + i) path = c.truncate.ensures.numbers ∙ ap (λ n. take n c.set_last.new.self.numbers) deep ∙ same in
    let front : take (first + i) back ≡ take (first + i) path = ap (take (first + i)) at_parent ∙ take-twice (first + i) path in
    let none = rw c.in-None.is at c.in_ok-node.ensures.ok in
    let lower : levels_along back first c.truncate-in-None.new.self.items ≡ take i (levels_along path first rungs) =
    ap (levels_along back first) (c.truncate-in-None.ensures.items ∙ take-set rungs i after)
    ∙ along-take back first i rungs
    ∙ ap (take i) (along-same back path (first + i) first rungs front (omega (arith, last))) in
    record {
      top = view (level_at (take (first + i) path) rung);
      old_is = ap (map view) (sym is)
          ∙ map-last view (levels_along path first rungs) i last_level (level_at (take (first + i) path) rung) (along-get path first rungs i rung (omega (arith, last)) c.index_mut.ensures.value)
          ∙ ap (λ ls. map view ls ++ view (level_at (take (first + i) path) rung) ∷ []) (sym lower);
      spent = none.0;
      parent_is = sym at_parent;
    }

pub returns-in-None-clause-levels_open : goal.returns-in-None-clause-levels_open
returns-in-None-clause-levels_open g c =
    let turn = returns-in-None-clause-ok g c in
    λ all. (ends-open g.P.Problem c.args.problem.now c.args.self.now.levels (levels_along c.truncate.new.self.numbers c.self.inside.first c.truncate-in-None.new.self.items) c.truncate.new.self.numbers turn all, tt)

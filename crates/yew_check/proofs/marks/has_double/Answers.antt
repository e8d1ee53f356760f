-- Neighbours in the order of paths.
use Rattle.std.proofs.Common.{◌≡◌, ◌<◌, ◌≤◌, ◌+◌, ◌-◌, [], length, get_or, ap, sym, ◌∙◌, arith}
use Rattle.std.proofs.lemmas.List.{length-map}
use Rattle.yew_check.specs.Marks.{Mark, seen, all_seen, mark_paths}
use Rattle.yew_check.proofs.Sorting.{path-at, twice-at, rises-from, differs-more}
use Rattle.yew_check.proofs.marks.has_double.Goals as goal

pub returns-then-is_path : goal.returns-then-is_path
returns-then-is_path c =
    let xs = c.args.marks.now in
    let k = c.loop-k.k in
    let ps = mark_paths (all_seen xs) in
    let some : 1 ≤ k = c.loop-k.auto.k in
    let back : (k - 1) + 1 ≡ k = omega arith in
    let first = path-at seen xs (k - 1) c.index-marks-k.result (omega arith) in
    let second = path-at seen xs k c.index-marks-k-in-loop-k.result c.loop-k-test.true in
    let long = length-map (all_seen xs) (λ (m : Mark). m.path) in
    let all = length-map xs seen in
    let within : (k - 1) + 1 < length ps = omega arith in
    twice-at ps (k - 1) within (sym first ∙ c.if-is_path.ensures ∙ second ∙ ap (λ j. get_or ps j []) (sym back))

pub loop-k-preserved : goal.loop-k-preserved
loop-k-preserved c =
    let xs = c.args.marks.now in
    let k = c.loop-k.k in
    let ps = mark_paths (all_seen xs) in
    let some : 1 ≤ k = c.loop-k.auto.k in
    let first = path-at seen xs (k - 1) c.index-marks-k.result (omega arith) in
    let second = path-at seen xs k c.index-marks-k-in-loop-k.result c.loop-k-test.true in
    differs-more ps k (omega arith) c.loop-k.invariant (λ e. c.if-is_path.ensures (first ∙ e ∙ sym second))

pub returns : goal.returns
returns c =
    let xs = c.args.marks.now in
    let ps = mark_paths (all_seen xs) in
    let long = length-map (all_seen xs) (λ (m : Mark). m.path) in
    let all = length-map xs seen in
    rises-from ps c.requires (λ k less. c.loop-k.invariant k (omega arith))

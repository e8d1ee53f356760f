-- A cause by the sorted worths is a cause by the worths.
use Rattle.std.proofs.Common.{subst, sym}
use Rattle.std.specs.List.Sorted.{IsPermutation}
use Rattle.yew_check.specs.Marks.{seen, all_seen, worths, IsCaused}
use Rattle.yew_check.proofs.CausesMoved.{caused-moves, caused-back, all-at, all-more}
use Rattle.yew_check.proofs.causes.have_causes.Goals as goal

pub returns-then-not-has_cause : goal.returns-then-not-has_cause
returns-then-not-has_cause c = λ all.
    let xs = c.args.marks.now in
    let known = worths (all_seen xs) in
    let same = subst (λ ws. IsPermutation known ws) (sym c.deref.ensures.value) c.in_ok-known.ensures.same in
    let here = all-at seen (IsCaused c.args.gap known) xs c.loop-mark.mark-index c.mark-item.result c.loop-mark-test.true all in
    c.if-not-has_cause.ensures (caused-moves c.args.gap known c.deref.result.now same (seen c.mark-item.result) (subst (λ m. IsCaused c.args.gap known (seen m)) (sym c.mark-item.is) here))

pub loop-mark-preserved : goal.loop-mark-preserved
loop-mark-preserved c =
    let xs = c.args.marks.now in
    let known = worths (all_seen xs) in
    let same = subst (λ ws. IsPermutation known ws) (sym c.deref.ensures.value) c.in_ok-known.ensures.same in
    let here = caused-back c.args.gap known c.deref.result.now same (seen c.mark-item.result) c.if-not-has_cause.ensures in
    all-more seen (IsCaused c.args.gap known) xs c.loop-mark.mark-index c.mark-item.result c.loop-mark-test.true c.loop-mark.invariant (subst (λ m. IsCaused c.args.gap known (seen m)) c.mark-item.is here)

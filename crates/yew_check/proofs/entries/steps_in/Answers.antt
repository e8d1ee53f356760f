-- A part that is no number of a path.
use Rattle.std.proofs.Common.{[], map, ap, ◌∙◌}
use Rattle.yew_check.proofs.PathTexts.{step-at}
use Rattle.yew_check.proofs.entries.steps_in.Goals as goal

pub returns-in-None : goal.returns-in-None
returns-in-None c = λ path within e.
    let parts = c.deref-step-items.result.now in
    let all = ap (map (λ part. part.now)) c.deref-step-items.ensures.value ∙ c.in_ok-parts.ensures ∙ e in
    let s = step-at (λ part. part.now) parts path c.loop-step.step-index (record { ref_ptr = (0, 0); now = [] }) c.loop-step-test.true all within in
    c.in-None.ensures s.number s.within s.is

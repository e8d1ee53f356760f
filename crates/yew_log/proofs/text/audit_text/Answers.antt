use Rattle.std.proofs.Common.{◌<◌, ◌+◌, length, arith, ap, sym, ◌∙◌, ◌++◌}
use Rattle.std.specs.Prelude.{codes}
use Rattle.yew_lines.specs.Spelling.{line}
use Rattle.yew_log.specs.AuditText.{worker_text}
use Rattle.yew_log.specs.Logs.{FullLog}
use Rattle.yew_log.proofs.Texts.{workers_text-take}
use Rattle.yew_log.proofs.text.audit_text.Goals as goal

pub loop-place-preserved : goal.loop-place-preserved
loop-place-preserved c =
    let place = c.loop-place.place in
    let log = c.index-logs-place.result in
    let less : place < length c.args.logs.now = omega arith in
    let step = workers_text-take (λ (l : FullLog). l.notes) c.args.logs.now place log less c.index-logs-place.is in
    c.in_ok-push_log.ensures
    ∙ ap (λ text. text ++ worker_text (place + 1) log.notes) c.loop-place.invariant
    ∙ ap (λ text. line (codes "audit 1") ++ text) (sym step)

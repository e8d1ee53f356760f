use Rattle.std.proofs.Common.{ℕ, ◌++◌, List, [], map, ap, ap₂, ◌∙◌, append_assoc}
use Rattle.std.specs.Prelude.{if◌then◌else◌}
use Rattle.yew_log.specs.AuditText.{report_text, audit_text}
use Rattle.yew_log.specs.Logs.{FullLog}
use Rattle.yew_app.specs.Searches.{joint_totals}
use Rattle.yew_app.proofs.tail.text_with_audit.Goals as goal

pub returns : goal.returns
returns c =
    let lines : List ℕ = c.args.answered.lines.items in
    let report : List FullLog → List ℕ = λ logs. if c.args.asked.report then report_text c.args.asked.workers (joint_totals (map (λ (log : FullLog). log.totals) logs)) else [] in
    let audit : List FullLog → List ℕ = λ logs. audit_text (map (λ (log : FullLog). log.notes) logs) in
    let logs : List FullLog = c.args.answered.logs.items in
    c.in_ok-push_text.ensures
    ∙ ap₂ (λ (a b : List ℕ). a ++ b) (c.in_ok-push_asked_report.ensures ∙ ap (λ (ls : List FullLog). lines ++ report ls) c.deref.ensures.value)
    (c.deref-3.ensures.value ∙ c.in_ok-audit.ensures ∙ ap audit c.deref-2.ensures.value)
    ∙ append_assoc lines (report logs) (audit logs)

use Rattle.std.proofs.Common.{◌++◌, List, [], map, ap, ◌∙◌}
use Rattle.std.specs.Prelude.{if◌then◌else◌}
use Rattle.yew_log.specs.AuditText.{report_text}
use Rattle.yew_log.specs.Logs.{CountsLog}
use Rattle.yew_app.specs.Searches.{joint_totals}
use Rattle.yew_app.proofs.tail.text_with_counts.Goals as goal

pub returns : goal.returns
returns c =
    c.in_ok-push_asked_report.ensures
    ∙ ap (λ (logs : List CountsLog). c.args.answered.lines.items ++ (if c.args.asked.report then report_text c.args.asked.workers (joint_totals (map (λ (log : CountsLog). log.totals) logs)) else []))
    c.deref.ensures.value

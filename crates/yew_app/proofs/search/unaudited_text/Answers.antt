use Rattle.std.proofs.lemmas.Result.{IfOk-weaker}
use Rattle.yew_kinds.specs.Kinds.{gap_of}
use Rattle.yew_app.specs.Meanings.{searched, IsJobText}
use Rattle.yew_app.proofs.PlainAudits.{first_node-first}
use Rattle.yew_app.proofs.SearchTexts.{counts-text}
use Rattle.yew_app.proofs.search.unaudited_text.Goals as goal

pub returns : goal.returns
returns g c =
    let m = g.J.SearchJob.meaning c.args.job.now in
    let x = c.args.problem.now in
    let answered = c.in_ok-answered.answered in
    let first = first_node-first (searched m x) (gap_of m.kind) in
    IfOk-weaker c.text_with_counts.result _ (λ text. IsJobText m c.args.asked x text.items)
    (λ text is. counts-text m c.args.asked x c.requires.askable first answered.lines.items text.items answered.logs.items c.requires.audit c.in_ok-answered.ensures is)
    c.text_with_counts.ensures

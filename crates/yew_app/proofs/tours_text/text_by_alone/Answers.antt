use Rattle.std.proofs.lemmas.Result.{IfOk-weaker}
use Rattle.yew_app.specs.Meanings.{IsJobText}
use Rattle.yew_app.specs.ShortestTours.{tours_meaning}
use Rattle.yew_app.proofs.ToursAsked.{text-by}
use Rattle.yew_app.proofs.tours_text.text_by_alone.Goals as goal

pub returns-clause-text : goal.returns-clause-text
returns-clause-text g c =
    let m = tours_meaning c.args.job.now.name.now c.args.job.now.gap g.P.ToursSearch.tree in
    IfOk-weaker c.text_alone.result _ (λ text. IsJobText m c.args.asked (g.P.ToursSearch.instance c.args.problem.now) text.items)
    (λ text is. text-by g.P.ToursSearch.instance m c.args.asked c.args.problem.now text.items is) c.text_alone.ensures.text

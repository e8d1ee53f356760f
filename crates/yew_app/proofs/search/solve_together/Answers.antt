use Rattle.yew_app.specs.Meanings.{known_files, AnswersFiles}
use Rattle.yew_app.proofs.Unreadable.{map_told}
use Rattle.yew_app.proofs.search.solve_together.Goals as goal

pub returns-in-Ok-text_together-clause-answers : goal.returns-in-Ok-text_together-clause-answers
returns-in-Ok-text_together-clause-answers g c =
    let m = g.J.SearchJob.meaning c.args.job.now in
    map_told (known_files m.names (g.S.Shelf.files c.args.shelf.now)) (λ told. m.Reads told c.in-Ok.problem)
    (λ told. AnswersFiles m c.args.asked told c.in-Ok-text_together.text.items)
    (λ told reads. (c.in-Ok.problem, reads, c.in-Ok-text_together.ensures.text)) c.in-Ok.ensures.read

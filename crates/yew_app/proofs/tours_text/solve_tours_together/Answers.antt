use Rattle.yew_app.specs.Meanings.{known_files, AnswersFiles}
use Rattle.yew_app.specs.ShortestTours.{tours_meaning, tree_asked}
use Rattle.yew_app.proofs.Unreadable.{map_told}
use Rattle.yew_app.proofs.tours_text.solve_tours_together.Goals as goal

pub returns-in-Ok-text_of_tours_together-clause-answers : goal.returns-in-Ok-text_of_tours_together-clause-answers
returns-in-Ok-text_of_tours_together-clause-answers g c =
    let m = tours_meaning c.args.job.now.name.now c.args.job.now.gap (tree_asked c.args.job.now.near c.args.job.now.span) in
    map_told (known_files m.names (g.S.Shelf.files c.args.shelf.now)) (λ told. m.Reads told c.in-Ok.tours)
    (λ told. AnswersFiles m c.args.asked told c.in-Ok-text_of_tours_together.text.items)
    (λ told reads. (c.in-Ok.tours, reads, c.in-Ok-text_of_tours_together.ensures.text)) c.in-Ok.ensures.read

use Rattle.std.proofs.Common.{◌∙◌}
use Rattle.yew_app.proofs.MadeFiles.{tours-read, tours-ends}
use Rattle.yew_app.proofs.made.read_made_tours.Goals as goal

pub returns-in-Ok-clause-is : goal.returns-in-Ok-clause-is
returns-in-Ok-clause-is c =
    tours-read c.file_laws.ensures c.args.seed c.args.size (c.made_tour.ensures c.args.seed c.args.size c.requires.least c.requires.most)
    c.deref.result.now (c.deref.ensures.value ∙ c.in_ok-text.ensures) c.in-Ok.problem c.in-Ok.ensures.file

pub want_of_memory-requires : goal.want_of_memory-requires
want_of_memory-requires c =
    tours-ends c.file_laws.ensures c.args.seed c.args.size (c.made_tour.ensures c.args.seed c.args.size c.requires.least c.requires.most)
    c.deref.result.now (c.deref.ensures.value ∙ c.in_ok-text.ensures) c.in-Err.end c.in-Err.ensures.end

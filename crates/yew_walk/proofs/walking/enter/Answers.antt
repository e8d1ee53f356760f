use Rattle.std.proofs.Common.{refl, inl, inr, length, ap, ◌∙◌, arith}
use Rattle.yew_laws.proofs.Trees.{node_at-rank}
use Rattle.yew_log.specs.Notes.{visited, cut}
use Rattle.yew_walk.proofs.walking.enter.Goals as goal

pub returns-in-Cut-clause-err : goal.returns-in-Cut-clause-err
returns-in-Cut-clause-err g c = record {
  note = cut c.args.stack.now.path c.in-Cut.bound c.in-Cut.read;
  judges = (refl, rw c.path.ensures at c.in-Cut.ensures);
  log_is = inl (c.in-Err.ensures.err, rw c.path-in-Cut.ensures at c.in-Err.ensures.cause);
}

pub returns-in-Err-note-clause-err : goal.returns-in-Err-note-clause-err
returns-in-Err-note-clause-err g c = record {
  note = visited c.args.stack.now.path c.in-Visit.worth c.in-Visit.read;
  judges = (refl, rw c.path.ensures at c.in-Visit.ensures);
  log_is = inl (c.in-Err-note.ensures.err, rw c.path-in-Visit.ensures at c.in-Err-note.ensures.cause);
}

pub overflow_cast-depth : goal.overflow_cast-depth
overflow_cast-depth g c =
    let meaning = g.P.Problem in
    let problem = c.args.problem.now in
    omega (arith, ap length (c.numbers.ensures.value ∙ c.path-in-Visit-2.ensures), node_at-rank (meaning.ranked problem) c.args.stack.now.path (meaning.root problem) c.args.node c.requires.root c.requires.task.found, meaning.root_rank problem c.requires.root)

pub keep-requires-clause-space : goal.keep-requires-clause-space
keep-requires-clause-space g c =
    let meaning = g.P.Problem in
    let problem = c.args.problem.now in
    omega (arith, ap length c.path-in-Visit-3.ensures, node_at-rank (meaning.ranked problem) c.args.stack.now.path (meaning.root problem) c.args.node c.requires.root c.requires.task.found, meaning.root_rank problem c.requires.root, c.requires.space)

pub returns-clause-err : goal.returns-clause-err
returns-clause-err g c = record {
  note = visited c.args.stack.now.path c.in-Visit.worth c.in-Visit.read;
  judges = (refl, rw c.path.ensures at c.in-Visit.ensures);
  log_is = inr (rw c.path-in-Visit.ensures at c.in-Ok-note.ensures.ok, refl);
}

pub returns-in-Ok-go_down-clause-fits : goal.returns-in-Ok-go_down-clause-fits
returns-in-Ok-go_down-clause-fits g c =
    let tally = c.args.tally.now in
    rw (c.keep.ensures.sum, c.note-in-Visit-2.ensures) ((g.T.Tally.monoid tally).join_fits c.args.hand.now.sum (g.T.Tally.of tally c.args.node _) c.requires.fits (g.T.Tally.of_fits tally c.args.node _))

pub returns-clause-fits : goal.returns-clause-fits
returns-clause-fits g c =
    let tally = c.args.tally.now in
    rw (c.keep.ensures.sum, c.note-in-Visit-2.ensures) ((g.T.Tally.monoid tally).join_fits c.args.hand.now.sum (g.T.Tally.of tally c.args.node _) c.requires.fits (g.T.Tally.of_fits tally c.args.node _))

-- The first word that is no file's name, or is missing.
use Rattle.std.proofs.Common.{sym, ◌∙◌, ap, arith, ◌<◌}
use Rattle.yew_words.specs.Word.{is_file_name}
use Rattle.yew_words.specs.Table.{file_count}
use Rattle.yew_words.proofs.OptionsRead.{file_missing, file_refused}
use Rattle.yew_words.proofs.read.read_files.Goals as goal

pub returns-in_default-clause-offence : goal.returns-in_default-clause-offence
returns-in_default-clause-offence c =
    let few : c.loop-index.index < file_count c.args.head = omega (arith, c.row-count.ensures.files) in
    file_missing c.args.head c.args.words.now c.loop-index.index c.loop-index.invariant.names c.loop-index.invariant.within c.in_default.ensures.lookup.3 few

pub returns-then-not-is_file_name-clause-offence : goal.returns-then-not-is_file_name-clause-offence
returns-then-not-is_file_name-clause-offence c =
    let few : c.loop-index.index < file_count c.args.head = omega (arith, c.row-count.ensures.files) in
    file_refused c.args.head c.args.words.now c.loop-index.index c.in-Some.word.now c.loop-index.invariant.names c.in-Some.ensures.lookup.3.0
    (sym c.in-Some.ensures.lookup.1) few (ap is_file_name (sym c.deref.ensures) ∙ sym c.if-not-is_file_name.ensures)

-- The word that names an option is its word.
use Rattle.std.proofs.Common.{sym}
use Rattle.yew_words.specs.Table.{option_word}
use Rattle.yew_words.specs.Table.{every_option}
use Rattle.yew_words.proofs.OneNameAWord.{named_is}
use Rattle.yew_words.proofs.read.read_name.Goals as goal

pub returns-then-not-is_for-clause-offence : goal.returns-then-not-is_for-clause-offence
returns-then-not-is_for-clause-offence c = (
  c.in-Some.name,
  named_is option_word every_option c.args.word.now c.in-Some.name (sym c.in-Some.ensures),
  sym c.if-not-is_for.ensures,
)

pub returns-then-is_given-clause-offence : goal.returns-then-is_given-clause-offence
returns-then-is_given-clause-offence c = (
  c.in-Some.name,
  named_is option_word every_option c.args.word.now c.in-Some.name (sym c.in-Some.ensures),
  sym c.if-not-is_for.ensures,
  sym c.if-is_given.ensures,
)

pub returns-clause-option : goal.returns-clause-option
returns-clause-option c = record {
  word_is = named_is option_word every_option c.args.word.now c.in-Some.name (sym c.in-Some.ensures);
  is_for_head =
      sym c.if-not-is_for.ensures;
  is_new = sym c.if-is_given.ensures;
}

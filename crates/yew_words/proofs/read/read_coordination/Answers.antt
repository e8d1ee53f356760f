-- The second word of a search.
use Rattle.std.proofs.Common.{ap, sym, ◌∙◌, ◌∷◌, List}
use Rattle.yew_words.specs.Word.{Word, texts}
use Rattle.yew_words.specs.Table.{problem_word}
use Rattle.yew_words.proofs.FirstWords.{first_and_rest, is_coordination, second_missing, second_unknown}
use Rattle.yew_words.proofs.read.read_coordination.Goals as goal

pub returns-in_default-clause-offence : goal.returns-in_default-clause-offence
returns-in_default-clause-offence c = second_missing c.args.problem c.args.words.now c.in_default.ensures.cases

pub returns-in-Some-named-clause-head : goal.returns-in-Some-named-clause-head
returns-in-Some-named-clause-head c = ap (λ (ws : List Word). problem_word c.args.problem ∷ ws)
    (first_and_rest c.args.words.now c.in-Some.second.now c.in-Some.rest.now _ c.in-Some.ensures.cases.0
    (sym c.deref.ensures ∙ is_coordination c.deref.result.now c.in-Some-named.coordination (sym c.in-Some-named.ensures)))

pub returns-in-None-clause-offence : goal.returns-in-None-clause-offence
returns-in-None-clause-offence c = second_unknown c.args.problem c.args.words.now c.deref.result.now (texts c.in-Some.rest.now)
    (first_and_rest c.args.words.now c.in-Some.second.now c.in-Some.rest.now c.deref.result.now c.in-Some.ensures.cases.0 (sym c.deref.ensures))
    (sym c.in-None.ensures)

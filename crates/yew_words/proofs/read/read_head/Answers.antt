-- What the second word gives, behind the first.
use Rattle.std.proofs.Common.{subst, sym, ◌∙◌, ◌≡◌, ◌∷◌, ◌++◌, List}
use Rattle.std.specs.Prelude.{IfOk, IfErr}
use Rattle.yew_words.specs.Word.{Word, texts}
use Rattle.yew_words.specs.Table.{head_words, problem_word}
use Rattle.yew_words.specs.Offences.{Offending}
use Rattle.yew_words.proofs.FirstWords.{first_and_rest, is_problem}
use Rattle.yew_words.proofs.read.read_head.Goals as goal

pub returns-in-Some-named-clause-head : goal.returns-in-Some-named-clause-head
returns-in-Some-named-clause-head c =
    let words_are : texts c.args.words.now ≡ problem_word c.in-Some-named.problem ∷ texts c.in-Some.rest.now =
    first_and_rest c.args.words.now c.in-Some.first.now c.in-Some.rest.now _ c.in-Some.ensures.cases.0
    (sym c.deref.ensures ∙ is_problem c.deref.result.now c.in-Some-named.problem (sym c.in-Some-named.ensures)) in
    subst (λ (ws : List Word). IfOk c.read_coordination.result (λ read. ws ≡ head_words read.0 ++ texts read.1.now))
    (sym words_are) c.read_coordination.ensures.head

pub returns-in-Some-named-clause-offence : goal.returns-in-Some-named-clause-offence
returns-in-Some-named-clause-offence c =
    let words_are : texts c.args.words.now ≡ problem_word c.in-Some-named.problem ∷ texts c.in-Some.rest.now =
    first_and_rest c.args.words.now c.in-Some.first.now c.in-Some.rest.now _ c.in-Some.ensures.cases.0
    (sym c.deref.ensures ∙ is_problem c.deref.result.now c.in-Some-named.problem (sym c.in-Some-named.ensures)) in
    subst (λ (ws : List Word). IfErr c.read_coordination.result (λ usage. Offending ws usage.place usage.kind))
    (sym words_are) c.read_coordination.ensures.offence

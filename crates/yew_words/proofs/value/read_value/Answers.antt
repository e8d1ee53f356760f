-- The first word's fault.
use Rattle.std.proofs.Common.{rules, ◌≡◌, Some, sym}
use Rattle.std.specs.Prelude.{IfErr}
use Rattle.yew_words.specs.Word.{texts}
use Rattle.yew_words.specs.Kept.{value_fault}
use Rattle.yew_words.proofs.FirstWords.{first_and_rest, first_fault}
use Rattle.yew_words.proofs.value.read_value.Goals as goal

pub returns-in_err-value_of-clause-fault : goal.returns-in_err-value_of-clause-fault
returns-in_err-value_of-clause-fault c =
    let fault : IfErr c.from_residual.result (λ kind. value_fault c.args.takes c.deref.result.now ≡ Some kind) = search rules in
    let words_are = first_and_rest c.args.words.now c.in-Some.word.now c.in-Some.rest.now c.deref.result.now c.in-Some.ensures.cases.0
    (sym c.deref.ensures) in
    first_fault c.from_residual.result c.args.takes c.args.words.now c.deref.result.now (texts c.in-Some.rest.now) words_are fault

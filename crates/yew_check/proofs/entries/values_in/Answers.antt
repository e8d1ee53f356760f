-- The first space parts the two numbers.
use Rattle.yew_check.proofs.EntryTexts.{values-cut, values-have}
use Rattle.yew_check.proofs.entries.values_in.Goals as goal

pub returns-in_default : goal.returns-in_default
returns-in_default c = λ first second a b e. values-have c.args.text.now first second c.in_default.ensures e

pub returns-in_default-number_in : goal.returns-in_default-number_in
returns-in_default-number_in c = λ first second a b e.
    let parts = values-cut c.args.text.now c.in-Some.first.now c.in-Some.second.now first second a c.in-Some.ensures.0 c.in-Some.ensures.1 e in
    c.in_default-number_in.ensures first a parts.0

pub returns-in_default-number_in-2 : goal.returns-in_default-number_in-2
returns-in_default-number_in-2 c = λ first second a b e.
    let parts = values-cut c.args.text.now c.in-Some.first.now c.in-Some.second.now first second a c.in-Some.ensures.0 c.in-Some.ensures.1 e in
    c.in_default-number_in-2.ensures second b parts.1

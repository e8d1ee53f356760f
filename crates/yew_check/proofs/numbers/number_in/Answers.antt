-- A text is a number exactly where it is spelled as one.
use Rattle.std.proofs.Common.{◌≡◌, ◌<◌, ◌^◌, true, false, sym, ap, ◌∙◌, arith}
use Rattle.std.proofs.lemmas.Bool.{both_ways}
use Rattle.std.specs.Prelude.{decimal}
use Rattle.yew_text.specs.Numbers.{value_of}
use Rattle.yew_check.specs.Numbers.{is_spelled}
use Rattle.yew_check.proofs.Numerals.{spelled-is, decimal-spelled, decimal-value}
use Rattle.yew_check.proofs.numbers.number_in.Goals as goal

pub returns-then-not-is_spelled : goal.returns-then-not-is_spelled
returns-then-not-is_spelled c = λ n within e.
    let bad : is_spelled c.args.text.now ≡ false = cc in
    let good = ap is_spelled e ∙ decimal-spelled n (omega arith) in
    both_ways (is_spelled c.args.text.now) bad good

pub returns-in_default : goal.returns-in_default
returns-in_default c = λ n within e.
    let same : value_of c.args.text.now ≡ n = ap value_of e ∙ decimal-value n (omega arith) in
    absurd (omega (arith, c.in_default.ensures, same))

pub returns-then-value-high : goal.returns-then-value-high
returns-then-value-high c = λ n within e.
    let same : value_of c.args.text.now ≡ n = ap value_of e ∙ decimal-value n (omega arith) in
    absurd (omega (arith, c.in-Some.ensures, same))

pub returns : goal.returns
returns c =
    let spelled : is_spelled c.args.text.now ≡ true = cc in
    let value : c.in-Some.value ≡ value_of c.args.text.now = c.in-Some.ensures.0 in
    let fits : value_of c.args.text.now < 2 ^ 64 = omega (arith, c.in-Some.ensures) in
    (spelled-is c.args.text.now spelled fits ∙ ap decimal (sym value), omega arith)

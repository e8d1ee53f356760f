use Rattle.std.proofs.Common.{◌∙◌, Ok, Err, sym, subst, arith}
use Rattle.yew_text.specs.Reading.{TakesNumber}
use Rattle.yew_tsp.proofs.Dimensions.{value_is, too_few, enough, too_big, nonempty-from}
use Rattle.yew_tsp.proofs.header.dimension.Goals as goal

pub returns-in-Ok : goal.returns-in-Ok
returns-in-Ok c =
    too_few c.args.value.now (sym c.all_digits.ensures ∙ c.if-not-all_digits.false) (nonempty-from c.args.value.now (sym c.is_empty.ensures ∙ c.if-is_empty.false)) c.number.new.self c.in-Ok.cities
    (subst (λ at. TakesNumber at (Ok c.in-Ok.cities) c.number.new.self) c.new.ensures c.in-Ok.ensures.taken) c.if-cities-lt2.true

pub returns-in-Ok-2 : goal.returns-in-Ok-2
returns-in-Ok-2 c =
    let takes = subst (λ at. TakesNumber at (Ok c.in-Ok.cities) c.number.new.self) c.new.ensures c.in-Ok.ensures.taken in (
      enough c.args.value.now (sym c.all_digits.ensures ∙ c.if-not-all_digits.false) (nonempty-from c.args.value.now (sym c.is_empty.ensures ∙ c.if-is_empty.false)) c.number.new.self c.in-Ok.cities takes (omega arith),
      value_is c.args.value.now (sym c.all_digits.ensures ∙ c.if-not-all_digits.false) (nonempty-from c.args.value.now (sym c.is_empty.ensures ∙ c.if-is_empty.false)) c.number.new.self c.in-Ok.cities takes,
    )

pub returns-in-Err : goal.returns-in-Err
returns-in-Err c =
    too_big c.args.value.now (sym c.all_digits.ensures ∙ c.if-not-all_digits.false) (nonempty-from c.args.value.now (sym c.is_empty.ensures ∙ c.if-is_empty.false)) c.number.new.self c.in-Err.field-0
    (subst (λ at. TakesNumber at (Err c.in-Err.field-0) c.number.new.self) c.new.ensures c.in-Err.ensures.taken)

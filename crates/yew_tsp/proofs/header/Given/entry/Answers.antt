use Rattle.std.proofs.Common.{◌∙◌, ◌∷◌, ◌++◌, [], true, slice_set, ap, sym, subst}
use Rattle.yew_text.specs.Reading.{text_field}
use Rattle.yew_tsp.specs.FileReading.{judge_key}
use Rattle.yew_tsp.specs.Keys.{key_word, every_key}
use Rattle.yew_tsp.specs.Reading.{AreGiven}
use Rattle.yew_tsp.proofs.KeyValues.{named_is}
use Rattle.yew_tsp.proofs.Kept.{entry-kept, entry-judged}
use Rattle.yew_tsp.proofs.header.Given.entry.Goals as goal

pub returns : goal.returns
returns c = λ given are.
    let field = text_field c.args.field.now in
    let key = c.in-Some.key in
    let named = sym c.named.ensures ∙ c.in-Some.is in
    let key_is = named_is key_word every_key field.key key named in
    let new = sym (c.repeats.ensures given are) ∙ c.if-repeats.false in
    let mid = c.accept.new.self in (
      ap (judge_key given field) named ∙ entry-judged given field key key_is (record { colon = c.if-not-field.false; new = new; accepted = c.in-Ok.ensures.accepted }),
      subst (λ i. AreGiven (given ++ field ∷ []) (record mid { keys = slice_set mid.keys i true })) (sym c.index.ensures) (entry-kept given field key key_is c.args.self.now mid are new c.in-Ok.ensures),
    )

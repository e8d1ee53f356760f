use Rattle.std.proofs.Common.{[], ◌∷◌, ◌++◌, length, take, sym, ap, ap₂, ◌∙◌, arith}
use Rattle.std.proofs.lemmas.List.{length-set, take_more_set}
use Rattle.yew_span.specs.Bounds.{ends}
use Rattle.yew_span.specs.Places.{last_of}
use Rattle.yew_span.proofs.Placing.{left_out-more, left_out-same}
use Rattle.yew_span.proofs.spanned.put_rest.Goals as goal
use Rattle.yew_span.proofs.spanned.put_rest.Goals.{then-not-is_among, else-not-is_among}

pub loop-city-preserved : goal.loop-city-preserved
loop-city-preserved c =
    let listed = c.args.listed.now in
    let rest = c.loop-city.rest in
    let count = c.loop-city.count in
    let city = c.loop-city.city in
    let long = c.loop-city.invariant.long in
    let few = c.loop-city.invariant.few in
    let most = c.requires.few in
    elim c.if-not-is_among.branch [
      | then-not-is_among w ↦ record {
        long = ap length w.rest-is ∙ length-set rest count city ∙ long;
        few = let is = w.count-is in omega (arith, is, few);
        front =
            ap₂ take w.count-is w.rest-is ∙ take_more_set rest count city (omega (arith, long, few, most)) ∙ ap (λ xs. xs ++ city ∷ []) c.loop-city.invariant.front
            ∙ left_out-more listed (ends (last_of listed)) city (omega arith) (sym c.is_among.ensures ∙ w.if-not-is_among.true);
      }
      | else-not-is_among w ↦ record {
        long = ap length w.rest-is ∙ long;
        few = let is = w.count-is in omega (arith, is, few);
        front =
            ap₂ take w.count-is w.rest-is ∙ c.loop-city.invariant.front
            ∙ ap (λ xs. ends (last_of listed) ++ xs) (left_out-same listed city (omega arith) (sym c.is_among.ensures ∙ w.if-not-is_among.false));
      }
    ]

use Rattle.std.proofs.Common.{◌≡◌, true, take, get_or, subst, sym, ◌∙◌, arith}
use Rattle.std.proofs.lemmas.List.{take_more}
use Rattle.yew_laws.specs.Sets.{are_different, are_within}
use Rattle.yew_tsp.specs.Lists.{different-push, within-push}
use Rattle.yew_span.proofs.tests.are_cities.Goals as goal

pub loop-place-preserved : goal.loop-place-preserved
loop-place-preserved c =
    let cities = c.args.cities.now in
    let place = c.loop-place.place in
    let city = get_or cities place 0 in
    let more = take_more cities place 0 c.loop-place-test.true in
    record {
      different = subst (λ xs. are_different xs ≡ true) (sym more) (different-push (take place cities) city c.loop-place.invariant.different (sym c.is_among.ensures ∙ c.if-is_among.false));
      within = subst (λ xs. are_within 1 c.args.count xs ≡ true) (sym more) (within-push 1 c.args.count (take place cities) city c.loop-place.invariant.within (omega arith) (omega arith));
    }

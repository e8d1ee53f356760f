use Rattle.std.proofs.Common.{◌≡◌, ◌+◌, ◌-◌, ◌<◌, ◌≤◌, ℕ, [], ◌∷◌, ◌++◌, length, take, drop, map, get_or, ap, sym, subst, ◌∙◌, arith}
use Rattle.std.proofs.lemmas.Grind.{get_or_after_one}
use Rattle.std.proofs.lemmas.List.{length-set, length-take-le, length-drop, map_push, take_all, take_more, take_more_set}
use Rattle.yew_tsp.specs.Lists.{within-parts}
use Rattle.yew_span.specs.declared.growing.Outside.{Outside}
use Rattle.yew_span.specs.Growth.{beside, grown, left_over, span}
use Rattle.yew_span.specs.Outsides.{AreAllowed}
use Rattle.yew_span.specs.Span.{IsSpan}
use Rattle.yew_span.specs.SpanLaws.{span-whole}
use Rattle.yew_span.proofs.Taking.{all-rest, beside-allowed, few-cities, front-length, grown-step, left-allowed, nearest-allowed, span-parts, span-small}
use Rattle.yew_span.proofs.growing.least_span.Goals as goal

pub bounds-others-place : goal.bounds-others-place
bounds-others-place c =
    let few = few-cities c.args.tours.now c.args.cities.now c.requires.limits c.requires.different c.requires.within in omega (arith, few)

pub loop-place-preserved : goal.loop-place-preserved
loop-place-preserved c =
    let instance = c.args.tours.now in
    let cities = c.args.cities.now in
    let others = c.loop-place.others in
    let place = c.loop-place.place in
    let start = get_or cities 0 0 in
    let few = few-cities instance cities c.requires.limits c.requires.different c.requires.within in
    let long = c.loop-place.invariant.long in
    let there : place < length others = omega (arith, few, long) in
    let value : Outside = record { city = get_or cities (place + 1) 0; near = c.weight.result } in
    let behind : 1 + place ≡ place + 1 = omega arith in
    let next : get_or (drop 1 cities) place 0 ≡ get_or cities (place + 1) 0 = get_or_after_one cities place 0 ∙ ap (λ k. get_or cities k 0) behind in
    let is : value ≡ beside instance start (get_or (drop 1 cities) place 0) =
    ap (λ (n : ℕ). made (get_or cities (place + 1) 0) n) c.weight.ensures ∙ ap (beside instance start) (sym next) in
    let rest : place < length (drop 1 cities) = let less = length-drop 1 cities in omega (arith, less) in
    record {
      long = length-set others place value ∙ long;
      front =
          take_more_set others place value there
          ∙ ap (λ xs. xs ++ value ∷ []) c.loop-place.invariant.front
          ∙ ap (λ v. map (beside instance start) (take place (drop 1 cities)) ++ v ∷ []) is
          ∙ sym (ap (map (beside instance start)) (take_more (drop 1 cities) place 0 rest) ∙ map_push (beside instance start) (take place (drop 1 cities)) (get_or (drop 1 cities) place 0));
    }
  where
    made : ℕ → ℕ → Outside
    made a b = record { city = a; near = b }

pub loop-count-init : goal.loop-count-init
loop-count-init c =
    let instance = c.args.tours.now in
    let cities = c.args.cities.now in
    let start = get_or cities 0 0 in
    let few = few-cities instance cities c.requires.limits c.requires.different c.requires.within in
    let all : c.loop-place.place ≡ length cities - 1 = omega arith in
    let less = length-drop 1 cities in
    let front : take (length cities - 1) c.loop-place.others ≡ map (beside instance start) (drop 1 cities) =
    ap (λ k. take k c.loop-place.others) (sym all) ∙ c.loop-place.invariant.front ∙ ap (map (beside instance start)) (take_all c.loop-place.place (drop 1 cities) (omega (arith, all, less))) in
    let parts = span-parts instance cities 0 c.requires.some in
    let same = ap (grown instance (length cities - 1)) front in
    record {
      long = c.loop-place.invariant.long;
      few = omega (arith, few);
      allowed =
          subst (AreAllowed instance) (sym front)
          (beside-allowed instance c.requires.limits start (drop 1 cities) (all-rest (λ k. (1 ≤ k) × (k ≤ instance.cities)) cities (within-parts 1 instance.cities cities c.requires.within)));
      sum = omega (arith, parts, same);
    }

pub overflow_add-total : goal.overflow_add-total
overflow_add-total c =
    let instance = c.args.tours.now in
    let cities = c.args.cities.now in
    let outside = take c.loop-count.count c.loop-count.others in
    let few = few-cities instance cities c.requires.limits c.requires.different c.requires.within in
    let small = span-small instance cities c.requires.limits c.requires.some (within-parts 1 instance.cities cities c.requires.within) in
    let long = c.loop-count.invariant.long in
    let bounded = c.loop-count.invariant.few in
    let cut = length-take-le c.loop-count.count c.loop-count.others (omega (arith, long, bounded)) in
    let some = c.loop-count-test.true in
    let step = grown-step instance c.loop-count.count outside c.nearest_of-taken.result (omega (arith, cut)) (omega (arith, cut, some)) c.nearest_of-taken.ensures
    (length (left_over instance c.nearest_of-taken.result outside)) (omega arith) in
    let is = step.1 in
    let sum = c.loop-count.invariant.sum in
    omega (arith, few, small, is, sum)

pub take_in-count-requires-clause-taken : goal.take_in-count-requires-clause-taken
take_in-count-requires-clause-taken c =
    nearest-allowed c.args.tours.now (take c.loop-count.count c.loop-count.others) c.nearest_of-taken.result c.loop-count.invariant.allowed c.nearest_of-taken.ensures

pub loop-count-smaller : goal.loop-count-smaller
loop-count-smaller c =
    let instance = c.args.tours.now in
    let outside = take c.loop-count.count c.loop-count.others in
    let long = c.loop-count.invariant.long in
    let bounded = c.loop-count.invariant.few in
    let cut = length-take-le c.loop-count.count c.loop-count.others (omega (arith, long, bounded)) in
    let some = c.loop-count-test.true in
    let step = grown-step instance c.loop-count.count outside c.nearest_of-taken.result (omega (arith, cut)) (omega (arith, cut, some)) c.nearest_of-taken.ensures
    (length (left_over instance c.nearest_of-taken.result outside)) (omega arith) in
    let less = step.0 in
    let kept = c.take_in-count.auto.others in
    let fewer = c.take_in-count.ensures.fewer in
    let same = front-length c.take_in-count.new.others (left_over instance c.nearest_of-taken.result outside) c.take_in-count.result c.take_in-count.ensures.front (omega (arith, kept, long, bounded, fewer)) in
    omega (arith, less, same)

pub loop-count-preserved : goal.loop-count-preserved
loop-count-preserved c =
    let instance = c.args.tours.now in
    let outside = take c.loop-count.count c.loop-count.others in
    let long = c.loop-count.invariant.long in
    let bounded = c.loop-count.invariant.few in
    let cut = length-take-le c.loop-count.count c.loop-count.others (omega (arith, long, bounded)) in
    let some = c.loop-count-test.true in
    let kept = c.take_in-count.auto.others in
    let fewer = c.take_in-count.ensures.fewer in
    let same = front-length c.take_in-count.new.others (left_over instance c.nearest_of-taken.result outside) c.take_in-count.result c.take_in-count.ensures.front (omega (arith, kept, long, bounded, fewer)) in
    let step = grown-step instance c.loop-count.count outside c.nearest_of-taken.result (omega (arith, cut)) (omega (arith, cut, some)) c.nearest_of-taken.ensures
    c.take_in-count.result (omega (arith, same)) in
    let is = step.1 in
    let sum = c.loop-count.invariant.sum in
    let front = ap (grown instance c.take_in-count.result) c.take_in-count.ensures.front in
    record {
      long = omega (arith, kept, long);
      few = omega (arith, fewer, bounded);
      allowed = subst (AreAllowed instance) (sym c.take_in-count.ensures.front) (left-allowed instance c.nearest_of-taken.result outside c.loop-count.invariant.allowed);
      sum = omega (arith, is, sum, front);
    }

pub returns : goal.returns
returns c =
    let instance = c.args.tours.now in
    let cities = c.args.cities.now in
    let none : c.loop-count.count ≡ 0 = omega arith in
    let sum = c.loop-count.invariant.sum in
    let same = ap (λ k. grown instance k (take c.loop-count.count c.loop-count.others)) none in
    let total : span instance cities ≡ c.loop-count.total = omega (arith, sum, same) in
    subst (IsSpan instance cities) total
    (span-whole instance c.requires.symmetric cities c.requires.some c.requires.different (within-parts 1 instance.cities cities c.requires.within))

use Rattle.std.proofs.Common.{◌≡◌, ◌∙◌, ◌+◌, ◌-◌, ◌∷◌, [], ◌++◌, map, ap, sym, arith}
use Rattle.std.specs.List.{range_with_len, sum_by}
use Rattle.std.proofs.lemmas.List.{map_push}
use Rattle.std.proofs.lemmas.List.Sums.{sum_by_push}
use Rattle.yew_tsp.specs.BoundLaws.{leasts-small}
use Rattle.yew_tsp.specs.Instance.{Instance}
use Rattle.yew_tsp.specs.Lists.{length-range, range-push}
use Rattle.yew_tsp.specs.Nodes.{least_weight}
use Rattle.yew_tsp.proofs.tours.Tours.new.Goals as goal

pub overflow_add-total : goal.overflow_add-total
overflow_add-total c =
    let instance : Instance = record { cities = c.args.cities; weights = c.args.weights.items } in
    let small = leasts-small instance (range_with_len 1 (c.loop-city.city - 1)) in
    let long = length-range 1 (c.loop-city.city - 1) in
    let sum = c.loop-city.invariant.sum in
    let few = c.requires.few in
    omega (arith, small, long, sum, few)

pub loop-city-preserved : goal.loop-city-preserved
loop-city-preserved c =
    let instance : Instance = record { cities = c.args.cities; weights = c.args.weights.items } in
    let city = c.loop-city.city in
    let range : range_with_len 1 (city + 1 - 1) ≡ range_with_len 1 (city - 1) ++ city ∷ [] = range-push city (omega arith) in
    let weight = c.least_from-weight.ensures ∙ ap (λ ws. least_weight (record { cities = c.args.cities; weights = ws }) city) c.as_slice.ensures.value in
    record {
      kept =
          c.in_ok-push.ensures.items
          ∙ ap (λ ws. ws ++ c.least_from-weight.result ∷ []) c.loop-city.invariant.kept
          ∙ ap (λ w. map (least_weight instance) (range_with_len 1 (city - 1)) ++ w ∷ []) weight
          ∙ sym (ap (map (least_weight instance)) range ∙ map_push (least_weight instance) (range_with_len 1 (city - 1)) city);
      sum =
          let more = ap (sum_by (least_weight instance)) range ∙ sum_by_push (least_weight instance) (range_with_len 1 (city - 1)) city in
          let sum = c.loop-city.invariant.sum in
          omega (arith, more, sum, weight);
    }

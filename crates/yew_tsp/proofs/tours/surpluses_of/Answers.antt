use Rattle.std.proofs.Common.{◌≡◌, ◌∙◌, ◌+◌, ◌∷◌, [], ◌++◌, map, ap, sym, arith}
use Rattle.std.specs.List.{range_with_len}
use Rattle.std.proofs.lemmas.List.{map_push}
use Rattle.yew_tsp.specs.Instance.{Instance}
use Rattle.yew_tsp.specs.Lists.{range-append}
use Rattle.yew_tsp.specs.Nodes.{surplus_at}
use Rattle.yew_tsp.proofs.tours.surpluses_of.Goals as goal

pub loop-place-preserved : goal.loop-place-preserved
loop-place-preserved c =
    let instance : Instance = record { cities = c.args.cities; weights = c.args.weights.now } in
    let place = c.loop-place.place in
    let own : 0 + place ≡ place = omega arith in
    let range : range_with_len 0 (place + 1) ≡ range_with_len 0 place ++ place ∷ [] = range-append 0 place 1 ∙ ap (λ k. range_with_len 0 place ++ k ∷ []) own in
    c.in_ok-push.ensures.items
    ∙ ap (λ ws. ws ++ c.surplus_at.result ∷ []) c.loop-place.invariant
    ∙ ap (λ w. map (surplus_at instance) (range_with_len 0 place) ++ w ∷ []) c.surplus_at.ensures
    ∙ sym (ap (map (surplus_at instance)) range ∙ map_push (surplus_at instance) (range_with_len 0 place) place)

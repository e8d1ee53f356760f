use Rattle.std.proofs.Common.{◌≡◌, ◌∙◌, ◌+◌, ◌-◌, ◌/◌, ◌%◌, ◌<◌, length, get_or, ap, sym, arith}
use Rattle.std.specs.List.{range_with_len}
use Rattle.std.proofs.lemmas.List.{length-map}
use Rattle.std.proofs.lemmas.List.FromFn.{get_or-map-range_with_len}
use Rattle.yew_tsp.specs.Instance.{Instance, weight_between}
use Rattle.yew_tsp.specs.Lists.{length-range}
use Rattle.yew_tsp.specs.Nodes.{least_weight}
use Rattle.yew_tsp.proofs.Surpluses.{surplus_at-within}
use Rattle.yew_tsp.proofs.tours.surplus_at.Goals as goal

pub bounds-least-from : goal.bounds-least-from
bounds-least-from c =
    let n = c.args.cities in
    let long = ap length c.requires.least ∙ length-map (range_with_len 1 n) (least_weight (record { cities = n; weights = c.args.weights.now })) ∙ length-range 1 n in
    let inside = c.requires.place in
    omega (arith, long, inside)

pub returns : goal.returns
returns c =
    let n = c.args.cities in
    let instance : Instance = record { cities = n; weights = c.args.weights.now } in
    let inside = c.requires.place in
    let row = c.args.place / 64 in
    let place : row + 1 - 1 < n = omega (arith, inside) in
    let number : 1 + (row + 1 - 1) ≡ row + 1 = omega arith in
    let least : get_or c.args.least.now (row + 1 - 1) 0 ≡ least_weight instance (row + 1) =
    ap (λ ws. get_or ws (row + 1 - 1) 0) c.requires.least ∙ get_or-map-range_with_len (least_weight instance) 1 n (row + 1 - 1) (row + 1) 0 place number in
    c.saturating_sub.ensures
    ∙ ap (λ w. w - get_or c.args.least.now (row + 1 - 1) 0) c.weight_at.ensures
    ∙ ap (λ l. weight_between instance (row + 1) (c.args.place % 64 + 1) - l) least
    ∙ sym (surplus_at-within instance c.args.place c.if-to-cities.false)

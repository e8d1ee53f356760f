use Rattle.std.proofs.Common.{◌≡◌, ◌∙◌, ◌+◌, ◌-◌, ◌*◌, ◌<◌, length, get_or, ap, arith}
use Rattle.std.proofs.lemmas.List.FromFn.{get_or-map-range_with_len}
use Rattle.yew_tsp.specs.Instance.{Instance}
use Rattle.yew_tsp.specs.Nodes.{surplus, surplus_at}
use Rattle.yew_tsp.proofs.Surpluses.{length-surpluses, surplus_at-step}
use Rattle.yew_tsp.proofs.tours.Tours.surplus.Goals as goal

pub index-requires : goal.index-requires
index-requires c =
    let instance : Instance = record { cities = c.self.inside.cities; weights = c.self.inside.weights.items } in
    let long = ap length c.self.invariant.0 ∙ length-surpluses instance in
    let same = ap (λ (i : Instance). i.cities) c.self.view_is in
    omega (arith, long, same)

pub returns : goal.returns
returns c =
    let n = c.self.inside.cities in
    let instance : Instance = record { cities = n; weights = c.self.inside.weights.items } in
    let same = ap (λ (i : Instance). i.cities) c.self.view_is in
    let from = c.args.from in
    let to = c.args.to in
    let few = c.requires.few in
    let place : (from - 1) * 64 + (to - 1) < 64 * n = omega (arith, same, few) in
    let number : 0 + ((from - 1) * 64 + (to - 1)) ≡ (from - 1) * 64 + (to - 1) = omega arith in
    c.index.ensures
    ∙ ap (λ ws. get_or ws ((from - 1) * 64 + (to - 1)) c.index.result.now) c.self.invariant.0
    ∙ get_or-map-range_with_len (surplus_at instance) 0 (64 * n) ((from - 1) * 64 + (to - 1)) ((from - 1) * 64 + (to - 1)) c.index.result.now place number
    ∙ surplus_at-step instance from to (omega arith) (omega arith) (omega (arith, same)) (omega (arith, same, few))
    ∙ ap (λ i. surplus i from to) c.self.view_is

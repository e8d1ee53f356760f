use Rattle.std.proofs.Common.{◌∙◌, length, ap, arith}
use Rattle.yew_lad.specs.Digraphs.{GraphPair, vertex_count}
use Rattle.yew_lad.specs.OrderLaws.{length-searched_profiles}
use Rattle.yew_lad.proofs.subgraph.Subgraph.places.Goals as goal

pub returns-clause-value : goal.returns-clause-value
returns-clause-value c =
    let is = c.len.ensures in
    let size = ap length c.self.invariant.order_is ∙ length-searched_profiles c.self.inside.pattern ∙ ap (λ (p : GraphPair). vertex_count p.pattern) c.self.view_is in
    omega (arith, is, size)

pub returns-clause-small : goal.returns-clause-small
returns-clause-small c =
    let is = c.len.ensures in
    let size = ap length c.self.invariant.order_is ∙ length-searched_profiles c.self.inside.pattern in
    let few = c.self.invariant.limits.pattern in
    omega (arith, is, size, few)

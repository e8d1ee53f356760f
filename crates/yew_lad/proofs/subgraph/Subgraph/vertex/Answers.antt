use Rattle.std.proofs.Common.{◌∙◌, length, ap, arith}
use Rattle.std.proofs.lemmas.List.{get_or_default}
use Rattle.yew_lad.specs.declared.profiles.Profile.{Profile}
use Rattle.yew_lad.specs.Digraphs.{GraphPair, vertex_count}
use Rattle.yew_lad.specs.Nodes.{vertex_at}
use Rattle.yew_lad.specs.OrderLaws.{length-searched_profiles}
use Rattle.yew_lad.specs.Tables.{blank, vertex_in}
use Rattle.yew_lad.proofs.Orders.{vertex_in-order}
use Rattle.yew_lad.proofs.subgraph.Subgraph.vertex.Goals as goal

pub index-requires : goal.index-requires
index-requires c =
    let size = ap length c.self.invariant.order_is ∙ length-searched_profiles c.self.inside.pattern ∙ ap (λ (p : GraphPair). vertex_count p.pattern) c.self.view_is in
    let within = c.requires in
    omega (arith, size, within)

pub returns : goal.returns
returns c =
    let s = c.self.inside in
    let size = ap length c.self.invariant.order_is ∙ length-searched_profiles s.pattern ∙ ap (λ (p : GraphPair). vertex_count p.pattern) c.self.view_is in
    let within = c.requires in
    ap (λ (x : Profile). x.vertex) (c.index.ensures ∙ get_or_default s.order.items c.args.place c.index.result.now blank (omega (arith, size, within)))
    ∙ ap (λ xs. vertex_in xs c.args.place) c.self.invariant.order_is
    ∙ vertex_in-order s.pattern c.args.place
    ∙ ap (λ (p : GraphPair). vertex_at p c.args.place) c.self.view_is

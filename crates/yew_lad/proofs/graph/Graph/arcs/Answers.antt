use Rattle.std.proofs.Common.{◌+◌, ◌/◌, ◌∙◌, ap, arith}
use Rattle.yew_lad.proofs.Arcs.{size_is, arc_is}
use Rattle.yew_lad.proofs.graph.Graph.arcs.Goals as goal

pub returns : goal.returns
returns c =
    let s = c.self.inside in
    let is = size_is s.size s.arcs c.args.self.now c.self.view_is in
    record {
      rows_are = c.self.invariant.rows_are ∙ is;
      width_is = c.self.invariant.width_is ∙ ap (λ n. (n + 63) / 64) is;
      bits = λ u v l m. arc_is s.size s.arcs c.args.self.now c.self.view_is u v (omega arith) (omega arith);
    }

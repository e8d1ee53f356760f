use Rattle.std.proofs.Common.{◌+◌, ◌/◌, ap, ◌∙◌}
use Rattle.yew_lad.proofs.Arcs.{size_is}
use Rattle.yew_lad.proofs.graph.Graph.width.Goals as goal

pub returns : goal.returns
returns c = c.width.ensures.value ∙ c.self.invariant.width_is ∙ ap (λ n. (n + 63) / 64) (size_is c.self.inside.size c.self.inside.arcs c.args.self.now c.self.view_is)

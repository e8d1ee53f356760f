use Rattle.yew_lad.proofs.Arcs.{size_is}
use Rattle.yew_lad.proofs.graph.Graph.size.Goals as goal

pub returns-clause-value : goal.returns-clause-value
returns-clause-value c = size_is c.self.inside.size c.self.inside.arcs c.args.self.now c.self.view_is

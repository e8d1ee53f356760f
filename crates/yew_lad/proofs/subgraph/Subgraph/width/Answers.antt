use Rattle.std.proofs.Common.{◌∙◌, ap}
use Rattle.yew_lad.specs.Digraphs.{GraphPair, vertex_count}
use Rattle.yew_lad.specs.Tables.{words_for}
use Rattle.yew_lad.proofs.subgraph.Subgraph.width.Goals as goal

pub returns : goal.returns
returns c = c.width.ensures ∙ ap (λ (p : GraphPair). words_for (vertex_count p.target)) c.self.view_is

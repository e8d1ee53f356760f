use Rattle.yew_make.proofs.GraphFiles.{made_graph_law}
use Rattle.yew_make.proofs.laws.made_graph.Goals as goal

pub returns : goal.returns
returns c = made_graph_law

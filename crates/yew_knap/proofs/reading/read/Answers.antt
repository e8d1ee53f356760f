use Rattle.std.proofs.lemmas.Result.{IfOk-weaker}
use Rattle.yew_knap.specs.Instance.{IsWithinLimits}
use Rattle.yew_knap.specs.NodeLaws.{root-sound}
use Rattle.yew_knap.specs.Nodes.{root_of, IsNode}
use Rattle.yew_knap.proofs.reading.read.Goals as goal

pub returns-in-Triples-clause-root : goal.returns-in-Triples-clause-root
returns-in-Triples-clause-root c =
    IfOk-weaker c.read_triples.result IsWithinLimits (λ problem. IsNode problem (root_of problem)) root-sound c.read_triples.ensures.limits

pub returns-in-Pairs-clause-root : goal.returns-in-Pairs-clause-root
returns-in-Pairs-clause-root c =
    IfOk-weaker c.read_body.result IsWithinLimits (λ problem. IsNode problem (root_of problem)) root-sound c.read_body.ensures.limits

use Rattle.yew_app.specs.Asks.{IsSequential, IsAnySkeleton}
use Rattle.yew_app.proofs.Replicas.{same-bytes}
use Rattle.yew_app.proofs.laws.replicas_write_the_same.Goals as goal

pub returns-clause-runs : goal.returns-clause-runs
returns-clause-runs c = same-bytes c.one_answer.ensures c.files_have_one_way.ensures IsAnySkeleton IsAnySkeleton

pub returns-clause-plain : goal.returns-clause-plain
returns-clause-plain c = same-bytes c.one_answer.ensures c.files_have_one_way.ensures IsAnySkeleton IsSequential

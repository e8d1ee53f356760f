use Rattle.std.proofs.Common.{◌∙◌}
use Rattle.yew_pool.proofs.Trying.{all_one}
use Rattle.yew_pool.proofs.tests.close.Goals as goal

pub close-requires-clause-all : goal.close-requires-clause-all
close-requires-clause-all c = all_one _ _ _ c.requires.passes ∙ c.requires.count

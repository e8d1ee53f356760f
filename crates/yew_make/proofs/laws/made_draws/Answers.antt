use Rattle.yew_make.proofs.Generator.{draws_are}
use Rattle.yew_make.proofs.laws.made_draws.Goals as goal

pub returns : goal.returns
returns c = draws_are

use Rattle.std.proofs.Common.{ap, ◌∙◌}
use Rattle.rand_pcg.specs.Lcg.{Lcg}
use Rattle.yew_make.proofs.Generator.{first_is}
use Rattle.yew_make.proofs.draws.Draws.new.Goals as goal

pub returns : goal.returns
returns c = ap (λ (g : Lcg). g.state) c.new.ensures ∙ first_is c.args.seed

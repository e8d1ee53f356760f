use Rattle.yew_words.specs.Plans.{planned}
use Rattle.yew_app.proofs.Askable.{within-askable}
use Rattle.yew_app.proofs.asked.plan_is_askable.Goals as goal

pub returns : goal.returns
returns c = within-askable (planned c.args.plan.now) c.requires.within

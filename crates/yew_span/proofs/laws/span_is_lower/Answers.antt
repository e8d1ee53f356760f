use Rattle.yew_span.proofs.Lower.{lower-length}
use Rattle.yew_span.proofs.laws.span_is_lower.Goals as goal

pub returns : goal.returns
returns c = lower-length c.args.tours.now c.args.node.now c.requires.node c.requires.symmetric

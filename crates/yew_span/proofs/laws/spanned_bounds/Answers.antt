use Rattle.yew_span.proofs.Lower.{bound-is, bound-below}
use Rattle.std.proofs.Common.{ap}
use Rattle.yew_span.specs.Bounds.{spanned_bound}
use Rattle.yew_span.proofs.laws.spanned_bounds.Goals as goal

pub returns-clause-symmetric : goal.returns-clause-symmetric
returns-clause-symmetric c = λ is. bound-is c.args.spanned.now.inner.now c.args.node.now c.requires (c.args.spanned.now.symmetric_is.0 is)

pub returns-clause-elsewhere : goal.returns-clause-elsewhere
returns-clause-elsewhere c = λ is. ap (λ b. spanned_bound b c.args.spanned.now.inner.now c.args.node.now) is

pub returns-clause-below : goal.returns-clause-below
returns-clause-below c = bound-below c.args.spanned.now.inner.now c.args.node.now c.requires c.args.spanned.now.symmetric

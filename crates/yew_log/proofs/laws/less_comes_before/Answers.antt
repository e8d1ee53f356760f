use Rattle.std.proofs.Common.{◌∙◌}
use Rattle.yew_log.proofs.PathOrders.{less-comes_before}
use Rattle.yew_log.proofs.laws.less_comes_before.Goals as goal

pub returns-clause-less : goal.returns-clause-less
returns-clause-less c = c.lt.ensures ∙ less-comes_before c.args.first.now.numbers c.args.second.now.numbers

pub returns-clause-order : goal.returns-clause-order
returns-clause-order c = less-comes_before

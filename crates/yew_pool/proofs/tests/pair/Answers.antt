use Rattle.std.proofs.Common.{◌∙◌, arith}
use Rattle.yew_pool.proofs.Trying.{one_of_all}
use Rattle.yew_pool.proofs.tests.pair.Goals as goal

pub returns-clause-second : goal.returns-clause-second
returns-clause-second c =
    one_of_all _ _ c.in_ok-pool.passes.items 1 c.remove-second.result c.in_ok-pool.ensures.passes (omega (arith, c.in_ok-pool.ensures.count.1))
    (c.remove-second.ensures.value ∙ c.remove-first.ensures.by_index.1 0 c.remove-second.result (omega arith))

use Rattle.yew_pool.specs.Passes.{HasLooked}
use Rattle.yew_pool.proofs.pool.PoolPass.steal_among.Given as goal

abbrev pub invariant-loop-number : goal.invariant-loop-number
invariant-loop-number g l = HasLooked l.initial.first l.number l.initial.self l.self

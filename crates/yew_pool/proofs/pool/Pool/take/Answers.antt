use Rattle.yew_pool.specs.Passes.{HasLookedRound}
use Rattle.yew_pool.proofs.Looking.{looks_all, on_empty}
use Rattle.yew_pool.proofs.pool.Pool.take.Goals as goal

pub returns-in-None-clause-empty : goal.returns-in-None-clause-empty
returns-in-None-clause-empty g c =
    on_empty c.steal.result (λ (h : HasLookedRound c.pop.new.self c.steal.new.pass). looks_all c.args.pass.now c.pop.new.self c.steal.new.pass
    c.pop.ensures.counts c.in-None.ensures.none h) c.steal.ensures.empty

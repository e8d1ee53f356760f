use Rattle.crossbeam_deque.specs.Handles.{worker_view}
use Rattle.yew_laws.specs.Tasks.{IsAmong}
use Rattle.yew_pool.proofs.Keeps.{takes, finds}
use Rattle.yew_pool.proofs.Ties.{taken_sound}
use Rattle.yew_pool.proofs.places.OwnDeque.pop.Goals as goal

pub pop_as-requires-clause-fifo : goal.pop_as-requires-clause-fifo
pop_as-requires-clause-fifo g c = λ _. takes IsAmong _ _ c.self.invariant.1

pub pop_as-requires-clause-empty : goal.pop_as-requires-clause-empty
pop_as-requires-clause-empty g c = finds IsAmong _ _ c.self.invariant.1

pub returns-clause-sound : goal.returns-clause-sound
returns-clause-sound g c = taken_sound IsAmong _ _ (worker_view c.self.inside.worker) _ _ _ c.pop_as.result c.self.view_is c.pop_as.ensures.rule

use Rattle.crossbeam_deque.specs.Handles.{worker_view}
use Rattle.yew_laws.specs.Tasks.{IsAmong}
use Rattle.yew_pool.proofs.Keeps.{pushes}
use Rattle.yew_pool.proofs.Ties.{sound_for}
use Rattle.yew_pool.proofs.places.OwnDeque.put.Goals as goal

pub push_as-requires-clause-pushes : goal.push_as-requires-clause-pushes
push_as-requires-clause-pushes g c =
    pushes IsAmong _ _ c.args.task c.self.invariant.1
    (sound_for IsAmong _ _ (worker_view c.self.inside.worker) _ c.args.task c.self.view_is c.requires)

use Rattle.yew_laws.specs.Tasks.{IsAmong}
use Rattle.yew_pool.proofs.Keeps.{forks}
use Rattle.yew_pool.proofs.Ties.{many_shares}
use Rattle.crossbeam_deque.specs.Handles.{worker_view}
use Rattle.yew_pool.proofs.places.OwnDeque.place.Goals as goal

pub another-pass-requires : goal.another-pass-requires
another-pass-requires g c = forks IsAmong _ _ (many_shares 1 _ _ (worker_view c.self.inside.worker) _ c.self.view_is c.requires)

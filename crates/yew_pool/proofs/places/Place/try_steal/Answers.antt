use Rattle.yew_laws.specs.Tasks.{IsAmong}
use Rattle.yew_pool.proofs.Keeps.{takes}
use Rattle.yew_pool.proofs.Ties.{many_shares, stolen}
use Rattle.crossbeam_deque.specs.Handles.{view}
use Rattle.yew_pool.proofs.places.Place.try_steal.Goals as goal

pub steal_as-requires-clause-takes : goal.steal_as-requires-clause-takes
steal_as-requires-clause-takes g c = takes IsAmong _ _ (many_shares 0 _ _ (view c.self.inside.pass) _ c.self.view_is c.requires)

pub returns : goal.returns
returns g c = stolen IsAmong _ _ (view c.self.inside.pass) _ _ _ c.steal_as.result c.self.view_is c.steal_as.ensures.rule

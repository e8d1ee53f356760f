use Rattle.yew_laws.specs.Tasks.{IsAmong}
use Rattle.yew_pool.proofs.Keeps.{moves, merges}
use Rattle.yew_pool.proofs.places.OwnDeque.absorb_owner.Goals as goal

pub another-pass-requires : goal.another-pass-requires
another-pass-requires g c = moves IsAmong _ _ c.other.invariant.1

pub absorb-requires-clause-rule : goal.absorb-requires-clause-rule
absorb-requires-clause-rule g c = merges IsAmong _ _ _ _ c.self.invariant.1

use Rattle.yew_pool.proofs.Taking.{same_owned}
use Rattle.yew_pool.proofs.pool.PoolPass.meet.Goals as goal

pub meet-requires-clause-deque : goal.meet-requires-clause-deque
meet-requires-clause-deque g c =
    same_owned c.self.inside.number c.other.inside.number c.self.inside.own c.other.inside.own c.self.inside.places.items c.other.inside.places.items _ _
    c.self.view_is c.other.view_is c.self.invariant.seated c.other.invariant.seated
    c.requires.pool c.requires.number

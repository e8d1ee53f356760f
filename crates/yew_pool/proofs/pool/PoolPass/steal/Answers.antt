use Rattle.std.proofs.Common.{sym}
use Rattle.yew_laws.specs.Tasks.{IsAmong}
use Rattle.yew_pool.proofs.Taking.{is_seated, seated, has_stolen, in_places, not_own}
use Rattle.yew_pool.proofs.Looking.{looked_as}
use Rattle.yew_pool.proofs.pool.PoolPass.steal.Goals as goal

pub invariant_of-self : goal.invariant_of-self
invariant_of-self g c =
    let n = c.self.inside.number in let own = c.self.inside.own in let places = c.self.inside.places.items in
    is_seated n own places _ c.self.invariant c.args.number c.steal.new.self own
    (seated n c.args.number own places c.index_mut.result.now c.steal.new.self c.steal.result c.self.invariant.seated
    (in_places n c.args.number own places _ c.self.view_is c.requires.within) (not_own n c.args.number own places _ c.self.view_is c.requires.other)
    (sym c.index_mut.ensures.value) c.steal.ensures.task c.steal.ensures.none)

pub returns-clause-task : goal.returns-clause-task
returns-clause-task g c =
    let n = c.self.inside.number in let own = c.self.inside.own in let places = c.self.inside.places.items in
    has_stolen IsAmong n c.args.number own places c.index_mut.result.now c.steal.new.self _ c.steal.result c.self.view_is c.self.invariant.seated
    (in_places n c.args.number own places _ c.self.view_is c.requires.within) (not_own n c.args.number own places _ c.self.view_is c.requires.other)
    (sym c.index_mut.ensures.value) c.steal.ensures.task c.steal.ensures.sound

pub returns-clause-none : goal.returns-clause-none
returns-clause-none g c =
    let n = c.self.inside.number in let own = c.self.inside.own in let places = c.self.inside.places.items in
    looked_as n c.args.number own c.index_mut.result.now c.steal.new.self places _ c.steal.result c.self.view_is
    (in_places n c.args.number own places _ c.self.view_is c.requires.within) (sym c.index_mut.ensures.value) c.steal.ensures.none

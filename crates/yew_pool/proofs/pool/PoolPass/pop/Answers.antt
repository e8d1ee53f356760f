use Rattle.std.proofs.Common.{sym}
use Rattle.yew_laws.specs.Tasks.{IsAmong}
use Rattle.yew_pool.proofs.Taking.{is_seated, seated_pop, has_popped, none_left_as, one_left_as}
use Rattle.yew_pool.proofs.Looking.{looked_pop, counts_each}
use Rattle.yew_pool.proofs.pool.PoolPass.pop.Goals as goal

pub invariant_of-self : goal.invariant_of-self
invariant_of-self g c =
    let n = c.self.inside.number in let own = c.self.inside.own in let places = c.self.inside.places.items in
    is_seated n own places _ c.self.invariant n c.pop_at.new.place c.pop_at.new.self
    (seated_pop n own c.pop_at.new.self c.index_mut.result.now c.pop_at.new.place places c.pop_at.result c.self.invariant.seated
    (sym c.index_mut.ensures.value) c.pop_at.ensures.task c.pop_at.ensures.none c.pop_at.ensures.counted)

pub returns-clause-task : goal.returns-clause-task
returns-clause-task g c =
    has_popped IsAmong c.self.inside.number c.self.inside.own c.pop_at.new.self c.index_mut.result.now c.pop_at.new.place
    c.self.inside.places.items _ c.pop_at.result c.self.view_is (sym c.index_mut.ensures.value)
    c.pop_at.ensures.task c.pop_at.ensures.sound

pub returns-clause-none : goal.returns-clause-none
returns-clause-none g c =
    looked_pop c.self.inside.number c.self.inside.own c.pop_at.new.self c.index_mut.result.now c.pop_at.new.place c.self.inside.places.items _
    c.pop_at.result c.self.view_is c.self.invariant.seated.within (sym c.index_mut.ensures.value)
    c.pop_at.ensures.none c.pop_at.ensures.counted

pub returns-clause-counts : goal.returns-clause-counts
returns-clause-counts g c = counts_each c.self.inside.number c.self.inside.own c.self.inside.places.items _ c.self.view_is

pub returns-clause-none_left : goal.returns-clause-none_left
returns-clause-none_left g c = none_left_as c.self.inside.number c.self.inside.own c.pop_at.new.self c.self.inside.places.items _ c.pop_at.result
    c.self.view_is c.self.invariant.seated c.pop_at.ensures.none

pub returns-clause-one_left : goal.returns-clause-one_left
returns-clause-one_left g c = one_left_as c.self.inside.number c.self.inside.own c.self.inside.places.items _ c.pop_at.result c.self.view_is
    c.self.invariant.seated c.pop_at.ensures.part

use Rattle.std.proofs.Common.{◌∙◌, List, [], ◌∷◌, inl, inr, sym}
use Rattle.yew_walk.specs.Outlets.{OutletCall, was_asked}
use Rattle.yew_walk.proofs.Results.{OnOk-map}
use Rattle.yew_walk.proofs.Shared.{shared-more}
use Rattle.yew_walk.proofs.share.ask.Goals as goal

pub returns-in-Spawn-clause-kept : goal.returns-in-Spawn-clause-kept
returns-in-Spawn-clause-kept g c = g.O.Outlet.kept_twice c.args.outlet.now c.wanted-wanted.new.self c.share.new.outlet c.wanted-wanted.ensures.kept c.share.ensures.kept

pub returns-in-Spawn-clause-later : goal.returns-in-Spawn-clause-later
returns-in-Spawn-clause-later g c = OnOk-map c.share.result (g.O.Outlet.later_twice c.args.outlet.now c.wanted-wanted.new.self c.share.new.outlet c.wanted-wanted.ensures.later) c.share.ensures.later

pub returns-in-Hand-clause-kept : goal.returns-in-Hand-clause-kept
returns-in-Hand-clause-kept g c = g.O.Outlet.kept_twice c.args.outlet.now c.wanted-wanted.new.self c.share-in-Hand.new.outlet c.wanted-wanted.ensures.kept c.share-in-Hand.ensures.kept

pub returns-in-Hand-clause-later : goal.returns-in-Hand-clause-later
returns-in-Hand-clause-later g c = OnOk-map c.share-in-Hand.result (g.O.Outlet.later_twice c.args.outlet.now c.wanted-wanted.new.self c.share-in-Hand.new.outlet c.wanted-wanted.ensures.later) c.share-in-Hand.ensures.later

pub returns-in-Spawn-clause-ok : goal.returns-in-Spawn-clause-ok
returns-in-Spawn-clause-ok g c =
    let behind : (calls : List OutletCall) → g.O.Outlet.goes c.wanted-wanted.new.self calls c.share.new.outlet → g.O.Outlet.goes c.args.outlet.now (was_asked c.wanted-wanted.result ∷ calls) c.share.new.outlet = λ calls did. g.O.Outlet.goes_on c.args.outlet.now c.wanted-wanted.new.self c.share.new.outlet (was_asked c.wanted-wanted.result ∷ []) calls c.wanted-wanted.ensures.goes did in
    OnOk-map c.share.result
    (λ s. (
      c.wanted-wanted.result,
      c.share.ensures.answers ∙ c.wanted-wanted.ensures.answers,
      record { state_is = c.in-Spawn.ensures.state; act_done = inr (inl (c.in-Spawn.chunk, sym c.in-Spawn.ensures.act, shared-more g.P.Problem c.args.problem.now behind (rw c.wanted-wanted.ensures.sent at s))) },
    ))
    c.share.ensures.ok

pub returns-in-Hand-clause-ok : goal.returns-in-Hand-clause-ok
returns-in-Hand-clause-ok g c =
    let behind : (calls : List OutletCall) → g.O.Outlet.goes c.wanted-wanted.new.self calls c.share-in-Hand.new.outlet → g.O.Outlet.goes c.args.outlet.now (was_asked c.wanted-wanted.result ∷ calls) c.share-in-Hand.new.outlet = λ calls did. g.O.Outlet.goes_on c.args.outlet.now c.wanted-wanted.new.self c.share-in-Hand.new.outlet (was_asked c.wanted-wanted.result ∷ []) calls c.wanted-wanted.ensures.goes did in
    OnOk-map c.share-in-Hand.result
    (λ s. (
      c.wanted-wanted.result,
      c.share-in-Hand.ensures.answers ∙ c.wanted-wanted.ensures.answers,
      record { state_is = c.in-Hand.ensures.state; act_done = inr (inr (c.in-Hand.chunk, sym c.in-Hand.ensures.act, shared-more g.P.Problem c.args.problem.now behind (rw c.wanted-wanted.ensures.sent at s))) },
    ))
    c.share-in-Hand.ensures.ok

use Rattle.std.proofs.Common.{◌∙◌, sym, subst, arith}
use Rattle.std.proofs.lemmas.List.{length-map}
use Rattle.yew_pool.specs.Passes.{AreSeated}
use Rattle.yew_pool.specs.Places.{PlaceView}
use Rattle.yew_pool.proofs.Merging.{popped_rows}
use Rattle.yew_pool.proofs.Seating.{seats_at, seats_more}
use Rattle.yew_pool.proofs.making.make_passes.Goals as goal

pub seated-pass-requires-clause-seated : goal.seated-pass-requires-clause-seated
seated-pass-requires-clause-seated g c =
    let at = seats_at _ _ c.loop-own.owns.items c.pop.new.self.items _ _ c.loop-own.passes.items c.in-Some.own c.in-Some-pop.places.items
    c.loop-own.invariant c.in-Some.ensures.items
    (popped_rows (λ row. row.items) _ c.pop-in-Some.new.self.items c.in-Some-pop.places c.in-Some-pop.ensures.items) in
    subst (λ n. AreSeated n c.in-Some.own c.in-Some-pop.places.items) (sym (c.len.ensures ∙ c.pop.new.self.ok.0)) at.seated

pub seated-pass-requires-clause-room : goal.seated-pass-requires-clause-room
seated-pass-requires-clause-room g c =
    let at = seats_at _ _ c.loop-own.owns.items c.pop.new.self.items _ _ c.loop-own.passes.items c.in-Some.own c.in-Some-pop.places.items
    c.loop-own.invariant c.in-Some.ensures.items
    (popped_rows (λ row. row.items) _ c.pop-in-Some.new.self.items c.in-Some-pop.places c.in-Some-pop.ensures.items) in
    let long = at.long in let ids = length-map c.args.owns.items (λ (p : PlaceView _ _). p.deque) in
    omega (arith, long, ids, c.in_ok-room.ensures, c.len-count.ensures, c.args.owns.ok.0)

pub loop-own-preserved : goal.loop-own-preserved
loop-own-preserved g c =
    seats_more _ _ c.loop-own.owns.items c.pop.new.self.items _ _ c.loop-own.passes.items _ c.in-Some.own c.in-Some-pop.places.items c.seated-pass.result
    c.len.result c.loop-own.invariant c.in-Some.ensures.items
    (popped_rows (λ row. row.items) _ c.pop-in-Some.new.self.items c.in-Some-pop.places c.in-Some-pop.ensures.items)
    (c.len.ensures ∙ c.pop.new.self.ok.0) c.seated-pass.ensures c.in_ok-insert.ensures.items

use Rattle.std.proofs.Common.{◌∙◌, List, length, map, sym, subst, eqb-true}
use Rattle.yew_laws.specs.Tasks.{IsAmong}
use Rattle.yew_pool.specs.Closing.{IsEmptied, IsPartEmptied}
use Rattle.yew_pool.specs.Places.{PlaceView}
use Rattle.yew_pool.proofs.Left.{left_all, left_none, left_part, no_length, on_err, on_ok}
use Rattle.yew_pool.proofs.pool.Pool.close.Goals as goal

pub returns-then-is_empty-clause-ok : goal.returns-then-is_empty-clause-ok
returns-then-is_empty-clause-ok g c = left_none IsAmong c.args.passes.items c.args.left.now.items
    (no_length c.args.passes.items (sym c.args.passes.ok.0 ∙ eqb-true _ _ (sym c.is_empty.ensures ∙ c.if-is_empty.true)))

pub order-requires-clause-count : goal.order-requires-clause-count
order-requires-clause-count g c = sym c.look_at_shares.ensures ∙ c.requires.all

pub returns-clause-ok : goal.returns-clause-ok
returns-clause-ok g c =
    let before = c.args.left.now.items in let after = c.empty.new.left.items in
    on_ok c.empty.result
    (λ (h : IsEmptied IsAmong c.settle.new.owns.items before after).
    left_all IsAmong c.args.self (length c.args.self.deques)
    (length c.args.self.deques) c.args.passes.items c.order.new.passes.items c.take_apart-owns.result.0.items c.merge.new.owns.items
    (map (λ row. row.items) c.take_apart-owns.result.1.items) before after c.order.ensures.same c.take_apart-owns.ensures c.merge.ensures
    (subst (λ (l : List (PlaceView _ _)). IsEmptied IsAmong l before after) c.settle.ensures.same h))
    c.empty.ensures.ok

pub returns-clause-memory : goal.returns-clause-memory
returns-clause-memory g c =
    let before = c.args.left.now.items in let after = c.empty.new.left.items in
    on_err c.empty.result
    (λ (h : IsPartEmptied IsAmong c.settle.new.owns.items before after).
    left_part IsAmong c.args.self (length c.args.self.deques)
    (length c.args.self.deques) c.args.passes.items c.order.new.passes.items c.take_apart-owns.result.0.items c.merge.new.owns.items
    (map (λ row. row.items) c.take_apart-owns.result.1.items) before after c.order.ensures.same c.take_apart-owns.ensures c.merge.ensures
    (subst (λ (l : List (PlaceView _ _)). IsPartEmptied IsAmong l before after) c.settle.ensures.same h))
    c.empty.ensures.err

use Rattle.std.proofs.Common.{◌∙◌, List, [], ◌∷◌, ◌++◌, map, ap, arith}
use Rattle.yew_pool.proofs.Merging.{popped_rows}
use Rattle.yew_pool.proofs.Apart.{apart_begins, apart_more, apart_ends, has_room}
use Rattle.yew_pool.proofs.Left.{no_length}
use Rattle.yew_pool.proofs.closing.take_apart.Goals as goal

pub loop-pass-init : goal.loop-pass-init
loop-pass-init g c =
    let pool = c.args.pool.now in let all = c.args.passes.items in let rest = c.pop.new.self.items in let pass = c.in-Some.first in
    let own = c.into_parts-own.result.0 in let row = c.into_parts-own.result.1.items in let e = c.in-Some.ensures.items in
    let seated = c.into_parts-own.ensures.seated in let view = c.into_parts-own.ensures.view in
    record {
      apart = apart_more pool all all rest [] c.push_reserved.new.self.items [] (map (λ row. row.items) c.push_reserved-2.new.self.items) pass own row
          (apart_begins pool all c.requires.order c.requires.count) e seated.seated view
          (c.push_reserved.ensures.items ∙ ap (λ (l : List _). l ++ own ∷ []) c.into_vecs-owns.ensures.empty.0)
          (popped_rows (λ row. row.items) c.push_reserved-2.new.self.items c.into_vecs-owns.result.1.items c.into_parts-own.result.1
          c.push_reserved-2.ensures.items ∙ ap (λ (l : List _). map (λ row. row.items) l ++ row ∷ []) c.into_vecs-owns.ensures.empty.1);
      owns_room = (let h = has_room pool _ _ _ all rest pass own row c.requires.order e view seated.enough c.into_vecs-owns.ensures.room.0 in
          omega (arith, h, c.push_reserved.ensures.capacity));
      rows_room = (let h = has_room pool _ _ _ all rest pass own row c.requires.order e view seated.enough c.into_vecs-owns.ensures.room.1 in
          omega (arith, h, c.push_reserved-2.ensures.capacity));
    }

pub loop-pass-preserved : goal.loop-pass-preserved
loop-pass-preserved g c =
    let own = c.into_parts-own-in-Some-pop.result.0 in let row = c.into_parts-own-in-Some-pop.result.1.items in
    let is = c.loop-pass.invariant in let a = is.owns_room in let b = is.rows_room in
    record {
      apart = apart_more c.args.pool.now c.args.passes.items c.loop-pass.passes.items c.pop-in-loop-pass.new.self.items c.loop-pass.owns.items
          c.push_reserved-in-Some-pop.new.self.items (map (λ row. row.items) c.loop-pass.rows.items)
          (map (λ row. row.items) c.push_reserved-in-Some-pop-2.new.self.items) c.in-Some-pop.pass own row is.apart c.in-Some-pop.ensures.items
          c.into_parts-own-in-Some-pop.ensures.seated.seated c.into_parts-own-in-Some-pop.ensures.view
          c.push_reserved-in-Some-pop.ensures.items
          (popped_rows (λ row. row.items) c.push_reserved-in-Some-pop-2.new.self.items c.loop-pass.rows.items c.into_parts-own-in-Some-pop.result.1
          c.push_reserved-in-Some-pop-2.ensures.items);
      owns_room = omega (arith, a, c.push_reserved-in-Some-pop.ensures.capacity);
      rows_room = omega (arith, b, c.push_reserved-in-Some-pop-2.ensures.capacity);
    }

pub returns : goal.returns
returns g c =
    apart_ends c.args.pool.now c.args.passes.items c.loop-pass.passes.items c.loop-pass.owns.items
    (map (λ row. row.items) c.loop-pass.rows.items) c.loop-pass.invariant.apart
    (no_length c.loop-pass.passes.items (omega (arith, c.in_default-pop.ensures.cases.0, c.loop-pass.passes.ok.0)))

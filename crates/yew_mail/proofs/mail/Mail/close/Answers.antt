use Rattle.std.proofs.Common.{arith}
use Rattle.yew_laws.specs.Tasks.{IsAmong}
use Rattle.yew_mail.proofs.Remainder.{is_whole, settles, all_left, part_left, on_ok, on_err}
use Rattle.yew_mail.proofs.mail.Mail.close.Goals as goal

pub returns-clause-ok : goal.returns-clause-ok
returns-clause-ok g c =
    let whole = is_whole _ _ _ c.seat.inside.seat.me.0 _ _ _ c.seat.view_is c.self.view_is c.gather.ensures c.requires.whole in
    let settled = settles IsAmong _ _ _ _ _
    (let w = c.self.invariant.2 in let some = c.self.invariant.4 in omega (arith, w, some)) whole c.seat.invariant.4 c.close_with-closed.ensures.values.2 in
    on_ok c.empty.result (all_left IsAmong _ _ _ c.seat.inside.seat.me.0 _ _ _ _ _ c.seat.view_is c.gather.ensures settled) c.empty.ensures.ok

pub returns-clause-err : goal.returns-clause-err
returns-clause-err g c =
    let whole = is_whole _ _ _ c.seat.inside.seat.me.0 _ _ _ c.seat.view_is c.self.view_is c.gather.ensures c.requires.whole in
    let settled = settles IsAmong _ _ _ _ _
    (let w = c.self.invariant.2 in let some = c.self.invariant.4 in omega (arith, w, some)) whole c.seat.invariant.4 c.close_with-closed.ensures.values.2 in
    on_err c.empty.result (part_left IsAmong _ _ _ c.seat.inside.seat.me.0 _ _ _ _ _ c.seat.view_is c.gather.ensures settled) c.empty.ensures.err

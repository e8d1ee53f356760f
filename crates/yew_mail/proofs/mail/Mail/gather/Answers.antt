use Rattle.std.proofs.Common.{arith}
use Rattle.yew_mail.proofs.Gathering.{gather_begins, gather_more, gather_ends, next_mail}
use Rattle.yew_mail.proofs.mail.Mail.gather.Goals as goal

pub loop-other-init : goal.loop-other-init
loop-other-init g c = gather_begins _ _ _ _ c.requires.mail (c.in-Some.ensures.items)

pub join-requires-clause-other : goal.join-requires-clause-other
join-requires-clause-other g c = next_mail _ _ _ _ _ _ c.loop-other.invariant c.in-Some-pop.ensures.items

pub loop-other-preserved : goal.loop-other-preserved
loop-other-preserved g c = gather_more _ _ _ _ _ _ _ c.loop-other.invariant c.in-Some-pop.ensures.items c.join.ensures

pub returns : goal.returns
returns g c = gather_ends _ _ _ _ c.loop-other.invariant
    (let long = c.loop-other.seats.ok in let none = c.in_default-pop.ensures.cases.0 in omega (arith, long, none))

use Rattle.std.proofs.Common.{length}
use Rattle.yew_mail.specs.Closing.{IsGathering}
use Rattle.yew_mail.proofs.mail.Mail.gather.Given as goal

abbrev pub invariant-loop-other : goal.invariant-loop-other
invariant-loop-other g l = IsGathering l.self l.fn.seats.items l.seats.items l.seat

abbrev pub decreases-loop-other : goal.decreases-loop-other
decreases-loop-other g l = length l.seats.items

use Rattle.std.proofs.Common.{◌∙◌}
use Rattle.yew_mail.proofs.Players.{whole_share}
use Rattle.yew_mail.proofs.tests.settled.Goals as goal

pub close-requires-clause-whole : goal.close-requires-clause-whole
close-requires-clause-whole c = whole_share _ _ c.in_ok-seats.ensures.0 ∙ c.in_ok-seats.ensures.1 ∙ c.requires.count

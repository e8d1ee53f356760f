-- The parser refuses a number only where it is too large.
use Rattle.std.proofs.Common.{sym}
use Rattle.yew_words.proofs.NumbersParsed.{past_every_range}
use Rattle.yew_words.proofs.value.number.Goals as goal

pub returns-in_default-clause-fault : goal.returns-in_default-clause-fault
returns-in_default-clause-fault c = past_every_range c.args.word.now c.args.low c.args.high c.in_default.field-0 c.in_default.ensures.value.0
    (sym c.if-not-is_number.ensures) c.ranges.high.fits

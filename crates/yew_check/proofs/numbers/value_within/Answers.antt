-- The digits pass the greatest number.
use Rattle.std.proofs.Common.{arith}
use Rattle.yew_text.proofs.Digits.{next_within}
use Rattle.yew_check.proofs.numbers.value_within.Goals as goal

pub returns-then-value : goal.returns-then-value
returns-then-value c = omega (arith, next_within c.loop-b.value c.loop-b.b-index c.args.text.now c.loop-b-test.true c.loop-b.invariant.digits c.loop-b.invariant.kept)

pub returns-then-next-gt-GREATEST_VALUE : goal.returns-then-next-gt-GREATEST_VALUE
returns-then-next-gt-GREATEST_VALUE c = omega (arith, next_within c.loop-b.value c.loop-b.b-index c.args.text.now c.loop-b-test.true c.loop-b.invariant.digits c.loop-b.invariant.kept)

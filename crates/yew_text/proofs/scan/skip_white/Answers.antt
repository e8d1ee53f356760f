-- One byte of white space further.
use Rattle.std.proofs.Common.{sym, ◌∙◌}
use Rattle.yew_text.specs.Position.{position_in}
use Rattle.yew_text.proofs.Skipping.{skipping_more}
use Rattle.yew_text.proofs.scan.skip_white.Goals as goal

pub loop-place-preserved : goal.loop-place-preserved
loop-place-preserved c = skipping_more c.args.bytes.now c.loop-place.place c.loop-place.line c.loop-place-test.true (position_in c.args.bytes.now c.args.place c.args.line) c.loop-place.invariant (sym c.is_white.ensures ∙ c.if-is_white.true)

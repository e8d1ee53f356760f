-- The first line of an audit was found.
use Rattle.std.proofs.Common.{[]}
use Rattle.yew_check.proofs.LineRuns.{head-found}
use Rattle.yew_check.proofs.reading.read_head.Goals as goal

pub returns-then-is_same : goal.returns-then-is_same
returns-then-is_same c =
    head-found (λ t. t.now) c.args.lines.now c.loop-place.place (record { ref_ptr = (0, 0); now = [] }) c.loop-place.bytes.items c.loop-place-test.true c.loop-place.invariant.no_audit c.loop-place.invariant.bytes c.if-is_same.ensures

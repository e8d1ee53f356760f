-- The fault of the line at the place.
use Rattle.std.proofs.Common.{◌<◌, ◌+◌, [], length, arith}
use Rattle.yew_check.proofs.LineRuns.{fault-misfit, fault-surplus}
use Rattle.yew_check.proofs.reading.fault_at.Goals as goal

pub returns-then-not-is_same : goal.returns-then-not-is_same
returns-then-not-is_same c =
    let less : c.args.read < length c.args.lines.now = omega arith in
    fault-misfit (λ t. t.now) c.args.lines.now c.args.read (record { ref_ptr = (0, 0); now = [] }) c.args.end less c.if-not-is_same.ensures

pub returns-then-read-lines-2 : goal.returns-then-read-lines-2
returns-then-read-lines-2 c =
    let less : c.args.read + 1 < length c.args.lines.now = omega arith in
    fault-surplus (λ t. t.now) c.args.lines.now c.args.read (record { ref_ptr = (0, 0); now = [] }) c.args.end less c.if-not-is_same.ensures

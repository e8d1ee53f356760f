use Rattle.std.proofs.Common.{◌≡◌, ◌+◌, ◌-◌}
use Rattle.std.specs.List.{range_with_len, sum_by}
use Rattle.yew_flow.specs.Instance.{time_on}
use Rattle.yew_flow.proofs.flow.later_sum.Given as goal

abbrev pub invariant-loop-later : goal.invariant-loop-later
invariant-loop-later l = l.sum ≡ sum_by (time_on (record { jobs = l.jobs; machines = l.machines; times = l.times }) l.job) (range_with_len (l.machine + 1) (l.later - (l.machine + 1)))

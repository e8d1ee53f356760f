use Rattle.std.proofs.Common.{◌≡◌, ◌+◌, ◌-◌, ◌*◌, ap, ◌∙◌, arith}
use Rattle.std.specs.List.{range_with_len, sum_by}
use Rattle.yew_flow.specs.BoundLaws.{sum-small, time-small}
use Rattle.yew_flow.specs.Instance.{Instance, time_on}
use Rattle.yew_flow.specs.Lists.{length-range}
use Rattle.yew_flow.proofs.Rows.{sum-more}
use Rattle.yew_flow.proofs.flow.later_sum.Goals as goal

pub overflow_add-sum : goal.overflow_add-sum
overflow_add-sum c =
    let instance : Instance = record { jobs = c.args.jobs; machines = c.args.machines; times = c.args.times.now } in
    let a = c.args.machine + 1 in
    let small = sum-small (time_on instance c.args.job) (time-small instance c.requires.limits c.args.job) (range_with_len a (c.loop-later.later - a)) in
    let long = ap (λ k. k * 1048575) (length-range a (c.loop-later.later - a)) in
    let one = time-small instance c.requires.limits c.args.job c.loop-later.later in
    let few = c.requires.limits.few_machines in
    let time = c.time_at-sum.ensures in
    let sum = c.loop-later.invariant in
    omega (arith, small, long, one, few, time, sum)

pub loop-later-preserved : goal.loop-later-preserved
loop-later-preserved c =
    let instance : Instance = record { jobs = c.args.jobs; machines = c.args.machines; times = c.args.times.now } in
    let more = sum-more (time_on instance c.args.job) (c.args.machine + 1) c.loop-later.later (omega arith) in
    let time = c.time_at-sum.ensures in
    let sum = c.loop-later.invariant in
    omega (arith, more, time, sum)

pub returns : goal.returns
returns c =
    let instance : Instance = record { jobs = c.args.jobs; machines = c.args.machines; times = c.args.times.now } in
    let all : c.loop-later.later - (c.args.machine + 1) ≡ c.args.machines - c.args.machine = omega arith in
    c.loop-later.invariant ∙ ap (λ k. sum_by (time_on instance c.args.job) (range_with_len (c.args.machine + 1) k)) all

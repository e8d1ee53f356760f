use Rattle.std.proofs.Common.{◌-◌, ◌*◌, ap, arith}
use Rattle.std.specs.List.{range_with_len}
use Rattle.yew_flow.specs.BoundLaws.{sum-small, time-small}
use Rattle.yew_flow.specs.Instance.{Instance, time_on}
use Rattle.yew_flow.specs.Lists.{length-range}
use Rattle.yew_flow.proofs.Rows.{sum-more}
use Rattle.yew_flow.proofs.flow.total_on.Goals as goal

pub overflow_add-total : goal.overflow_add-total
overflow_add-total c =
    let instance : Instance = record { jobs = c.args.jobs; machines = c.args.machines; times = c.args.times.now } in
    let small = sum-small (λ job. time_on instance job c.args.machine) (λ job. time-small instance c.requires.limits job c.args.machine) (range_with_len 1 (c.loop-job.job - 1)) in
    let long = ap (λ k. k * 1048575) (length-range 1 (c.loop-job.job - 1)) in
    let one = time-small instance c.requires.limits c.loop-job.job c.args.machine in
    let few = c.requires.limits.few_jobs in
    let time = c.time_at-total.ensures in
    let sum = c.loop-job.invariant in
    omega (arith, small, long, one, few, time, sum)

pub loop-job-preserved : goal.loop-job-preserved
loop-job-preserved c =
    let instance : Instance = record { jobs = c.args.jobs; machines = c.args.machines; times = c.args.times.now } in
    let more = sum-more (λ job. time_on instance job c.args.machine) 1 c.loop-job.job (omega arith) in
    let time = c.time_at-total.ensures in
    let sum = c.loop-job.invariant in
    omega (arith, more, time, sum)

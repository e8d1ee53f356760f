use Rattle.std.proofs.Common.{◌≡◌, ◌-◌, ◌∙◌, ap, arith}
use Rattle.std.specs.Prelude.{replicate}
use Rattle.yew_flow.specs.Instance.{Instance}
use Rattle.yew_flow.specs.Nodes.{all_jobs, time_of_all}
use Rattle.yew_flow.proofs.Rows.{front, front-machine}
use Rattle.yew_flow.proofs.flow.totals.Goals as goal

pub loop-machine-preserved : goal.loop-machine-preserved
loop-machine-preserved c =
    let instance : Instance = record { jobs = c.args.jobs; machines = c.args.machines; times = c.args.times.now } in
    let few = c.requires.limits.few_machines in
    front-machine (time_of_all instance (all_jobs instance)) (replicate 32 0) c.loop-machine.totals c.loop-machine.machine c.total_on.result (omega arith) (omega (arith, few)) c.loop-machine.invariant c.total_on.ensures

pub returns : goal.returns
returns c =
    let instance : Instance = record { jobs = c.args.jobs; machines = c.args.machines; times = c.args.times.now } in
    let all : c.loop-machine.machine - 1 ≡ c.args.machines = omega arith in
    c.loop-machine.invariant ∙ ap (front (time_of_all instance (all_jobs instance)) (replicate 32 0)) all

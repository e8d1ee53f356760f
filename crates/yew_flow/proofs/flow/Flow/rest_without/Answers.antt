use Rattle.std.proofs.Common.{◌≡◌, ◌-◌, ◌≤◌, ◌∙◌, length, slice_index, ap, arith}
use Rattle.yew_flow.specs.Instance.{time_on}
use Rattle.yew_flow.proofs.Rows.{front, front-machine}
use Rattle.yew_flow.proofs.flow.Flow.rest_without.Goals as goal

pub loop-machine-preserved : goal.loop-machine-preserved
loop-machine-preserved c =
    let machine = c.loop-machine.machine in
    let few = c.requires.limits.few_machines in
    let long : 32 ≤ length c.args.rest.now = omega arith in
    front-machine (λ k. slice_index c.args.rest.now (k - 1) - time_on c.args.self.now c.args.job k) c.args.rest.now c.loop-machine.less machine c.saturating_sub.result (omega arith) (omega (arith, few, long)) c.loop-machine.invariant
    (c.saturating_sub.ensures ∙ ap (λ t. slice_index c.args.rest.now (machine - 1) - t) c.time.ensures)

pub returns : goal.returns
returns c =
    let all : c.loop-machine.machine - 1 ≡ c.args.self.now.machines = omega arith in
    c.loop-machine.invariant ∙ ap (front (λ machine. slice_index c.args.rest.now (machine - 1) - time_on c.args.self.now c.args.job machine) c.args.rest.now) all

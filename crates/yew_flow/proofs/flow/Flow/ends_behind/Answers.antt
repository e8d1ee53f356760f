use Rattle.std.proofs.Common.{◌≡◌, ◌+◌, ◌-◌, ◌≤◌, ◌∙◌, length, ap, arith}
use Rattle.yew_flow.specs.Nodes.{done_on}
use Rattle.yew_flow.proofs.Rows.{front, front-machine, done-at}
use Rattle.yew_flow.proofs.flow.Flow.ends_behind.Goals as goal

pub overflow_add-done : goal.overflow_add-done
overflow_add-done c =
    let machine = c.loop-machine.machine in
    let at = done-at c.args.self.now c.args.ends.now c.args.job machine (omega arith) in
    let small = c.requires.small machine (omega arith) in
    let most = c.max.ensures in
    let time = c.time.ensures in
    let before = c.loop-machine.invariant.done_is in
    omega (arith, at, small, most, time, before)

pub loop-machine-preserved : goal.loop-machine-preserved
loop-machine-preserved c =
    let machine = c.loop-machine.machine in
    let at = done-at c.args.self.now c.args.ends.now c.args.job machine (omega arith) in
    let most = c.max.ensures in
    let time = c.time.ensures in
    let before = c.loop-machine.invariant.done_is in
    let now : c.max.result + c.time.result ≡ done_on c.args.self.now c.args.ends.now c.args.job machine = omega (arith, at, most, time, before) in
    let next : machine ≡ machine + 1 - 1 = omega arith in
    record {
      done_is = now ∙ ap (done_on c.args.self.now c.args.ends.now c.args.job) next;
      behind_is =
          let few = c.requires.limits.few_machines in
          let long : 32 ≤ length c.args.ends.now = omega arith in
          front-machine (done_on c.args.self.now c.args.ends.now c.args.job) c.args.ends.now c.loop-machine.behind machine (c.max.result + c.time.result) (omega arith) (omega (arith, few, long)) c.loop-machine.invariant.behind_is now;
    }

pub returns : goal.returns
returns c =
    let all : c.loop-machine.machine - 1 ≡ c.args.self.now.machines = omega arith in
    c.loop-machine.invariant.behind_is ∙ ap (front (done_on c.args.self.now c.args.ends.now c.args.job) c.args.ends.now) all

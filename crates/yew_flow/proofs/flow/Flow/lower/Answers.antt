use Rattle.std.proofs.Common.{◌≡◌, ◌-◌, ◌∙◌, map, ap, arith}
use Rattle.std.specs.List.{range_with_len}
use Rattle.yew_flow.specs.Nodes.{greatest_of, lower_on, jobs_of}
use Rattle.yew_flow.proofs.Bounds.{greatest-more}
use Rattle.yew_flow.proofs.flow.Flow.lower.Goals as goal

pub loop-machine-preserved : goal.loop-machine-preserved
loop-machine-preserved c =
    let machine = c.loop-machine.machine in
    let f = lower_on c.args.self.now (jobs_of c.args.node.now) in
    let more = greatest-more f machine (omega arith) in
    let most = c.max-lower.ensures in
    let own = c.lower_on.ensures in
    let before = c.loop-machine.invariant in
    omega (arith, more, most, own, before)

pub returns : goal.returns
returns c =
    let all : c.loop-machine.machine - 1 ≡ c.args.self.now.machines = omega arith in
    c.loop-machine.invariant ∙ ap (λ n. greatest_of (map (lower_on c.args.self.now (jobs_of c.args.node.now)) (range_with_len 1 n))) all

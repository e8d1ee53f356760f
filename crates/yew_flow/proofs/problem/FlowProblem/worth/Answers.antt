use Rattle.std.proofs.Common.{◌-◌, ◌<◌, ◌^◌, slice_index, ap, sym, arith}
use Rattle.yew_flow.specs.BoundLaws.{span-small, worth-whole, worth-part}
use Rattle.yew_flow.proofs.Bounds.{span-is}
use Rattle.yew_flow.proofs.Leaves.{none-left, some-left}
use Rattle.yew_flow.proofs.problem.FlowProblem.worth.Goals as goal

pub returns-then-node-ne0 : goal.returns-then-node-ne0
returns-then-node-ne0 c =
    let node = c.args.node.now in
    let fits : node.absent < 2 ^ 64 = omega arith in
    sym (worth-part c.args.self.now node c.requires.node (some-left c.args.self.now node c.requires.node c.if-node-ne0.true fits))

pub returns : goal.returns
returns c =
    let all = none-left c.args.self.now c.args.node.now c.requires.node c.if-node-ne0.false in
    let worth = worth-whole c.args.self.now c.args.node.now c.requires.node all in
    let span = span-is c.args.self.now c.args.node.now c.requires.node all in
    let small = span-small c.args.self.now c.args.node.now c.requires.node in
    let last = ap (λ n. slice_index c.args.node.now.ends (n - 1)) c.machines.ensures in
    omega (arith, worth, span, small, last)

use Rattle.std.proofs.Common.{arith}
use Rattle.yew_flow.specs.BoundLaws.{lower-small}
use Rattle.yew_flow.proofs.problem.FlowProblem.bound.Goals as goal

pub overflow_sub-result : goal.overflow_sub-result
overflow_sub-result c =
    let lower = lower-small c.args.self.now c.args.node.now c.requires.node in
    let is = c.lower.ensures in
    omega (arith, lower, is)

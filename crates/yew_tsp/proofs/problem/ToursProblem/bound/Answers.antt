use Rattle.std.proofs.Common.{arith}
use Rattle.yew_tsp.specs.BoundLaws.{lower-small}
use Rattle.yew_tsp.proofs.problem.ToursProblem.bound.Goals as goal

pub overflow_sub-result : goal.overflow_sub-result
overflow_sub-result c =
    let lower = c.requires.node.lower_is in
    omega (arith, lower, lower-small c.args.self.now c.args.node.now c.requires.node)

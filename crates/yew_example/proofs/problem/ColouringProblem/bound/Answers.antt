use Rattle.std.proofs.Common.{arith}
use Rattle.yew_example.specs.NodeLaws.{colours_used-below}
use Rattle.yew_example.proofs.problem.ColouringProblem.bound.Goals as goal

pub overflow_sub-result : goal.overflow_sub-result
overflow_sub-result c =
    omega (arith, c.used.ensures, colours_used-below c.args.self.now.number c.args.node.now c.requires.node.below)

use Rattle.std.proofs.Common.{arith}
use Rattle.yew_knap.specs.BoundLaws.{knapsack-bounded}
use Rattle.yew_knap.proofs.problem.KnapsackProblem.worth.Goals as goal

pub overflow_add-result : goal.overflow_add-result
overflow_add-result c = omega (arith, (knapsack-bounded c.args.self.now).fits c.args.node.now c.requires.node)

use Rattle.std.proofs.Common.{arith}
use Rattle.yew_knap.specs.BoundLaws.{knapsack-bounded}
use Rattle.yew_knap.proofs.problem.KnapsackProblem.bound.Goals as goal

pub greedy_gain-gain-requires-clause-small : goal.greedy_gain-gain-requires-clause-small
greedy_gain-gain-requires-clause-small c =
    omega (arith, (knapsack-bounded c.args.self.now).fits c.args.node.now c.requires.node)

pub overflow_add-result : goal.overflow_add-result
overflow_add-result c =
    omega (arith, c.greedy_gain-gain.ensures, (knapsack-bounded c.args.self.now).fits c.args.node.now c.requires.node)

pub overflow_add-result-2 : goal.overflow_add-result-2
overflow_add-result-2 c =
    omega (arith, c.greedy_gain-gain.ensures, (knapsack-bounded c.args.self.now).fits c.args.node.now c.requires.node)

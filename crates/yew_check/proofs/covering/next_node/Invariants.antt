use Rattle.std.proofs.Common.{◌≡◌}
use Rattle.yew_stack.specs.ToCome.{to_come, turns_left, AllOpen}
use Rattle.yew_check.proofs.covering.next_node.Given as goal

-- levels that ended had nothing to come
abbrev pub invariant-loop-node : goal.invariant-loop-node
invariant-loop-node g l = record {
  levels_open : AllOpen g.P.Problem l.problem l.descent.levels;
  same : to_come g.P.Problem l.problem l.descent.levels ≡ to_come g.P.Problem l.problem l.fn.descent.levels;
}

-- each level, and two for each node that is still to come
abbrev pub decreases-loop-node : goal.decreases-loop-node
decreases-loop-node g l = turns_left g.P.Problem l.problem l.descent.levels

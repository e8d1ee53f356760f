use Rattle.std.proofs.Common.{◌≡◌, ◌≤◌}
use Rattle.yew_rows.specs.IncreasingTrees.{children_from}
use Rattle.yew_rows.proofs.tests.increasing.next_child.Given as goal

abbrev pub invariant-loop-number : goal.invariant-loop-number
invariant-loop-number l = children_from l.parents l.parent l.from ≡ children_from l.parents l.parent l.number

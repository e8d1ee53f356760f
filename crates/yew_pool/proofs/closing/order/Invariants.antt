use Rattle.std.specs.Prelude.{◌+◌, ◌-◌, ◌≤◌, length}
use Rattle.yew_pool.specs.Ordering.{misplaced, AreOrdering}
use Rattle.yew_pool.proofs.closing.order.Given as goal

abbrev pub invariant-loop-at : goal.invariant-loop-at
invariant-loop-at g l = AreOrdering l.pool (length l.pool.deques) l.initial.passes.items l.passes.items l.at × (l.at ≤ length l.passes.items)

abbrev pub decreases-loop-at : goal.decreases-loop-at
decreases-loop-at g l = (length l.pool.deques - l.at) + misplaced (length l.pool.deques) 0 l.passes.items

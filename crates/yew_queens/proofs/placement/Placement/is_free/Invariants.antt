use Rattle.std.proofs.Common.{◌≡◌, length}
use Rattle.yew_queens.specs.BoardTree.{is_free}
use Rattle.yew_queens.proofs.placement.Placement.is_free.Given as goal

-- the queens of the rows that were passed attack none in this column
abbrev pub invariant-loop-first : goal.invariant-loop-first
invariant-loop-first l = is_free l.rest l.column ≡ is_free l.fn.self l.column

abbrev pub decreases-loop-first : goal.decreases-loop-first
decreases-loop-first l = length l.rest

use Rattle.std.proofs.Common.{◌≡◌, [], ◌∷◌, ◌++◌, map}
use Rattle.std.specs.List.{filter, range_with_len}
use Rattle.yew_queens.specs.BoardTree.{is_free}
use Rattle.yew_queens.proofs.board.one_queen_more.Given as goal

-- a node was pushed for each free column so far
abbrev pub invariant-loop-column : goal.invariant-loop-column
invariant-loop-column l = l.nodes.items ≡ map (λ c. l.fn.placed ++ c ∷ []) (filter (is_free l.fn.placed) (range_with_len 0 l.column))

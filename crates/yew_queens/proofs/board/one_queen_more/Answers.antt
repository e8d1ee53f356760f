use Rattle.std.proofs.Common.{◌∷◌, [], ◌++◌, sym, ◌∙◌, ap₂}
use Rattle.yew_queens.proofs.Columns.{added_free, added_attacked}
use Rattle.yew_queens.proofs.board.one_queen_more.Goals as goal
use Rattle.yew_queens.proofs.board.one_queen_more.Goals.{then-is_free+in_ok-with+in_ok-push, else-is_free}

-- a column that is free adds its node, and one that is not adds none
pub loop-column-preserved : goal.loop-column-preserved
loop-column-preserved c =
    let placed = c.args.placed.now in
    let column = c.loop-column.column in
    elim c.if-is_free.branch [
      | then-is_free+in_ok-with+in_ok-push w ↦
          rw w.nodes-is
          (w.in_ok-push.ensures.items
          ∙ ap₂ (λ nodes node. nodes ++ node ∷ []) c.loop-column.invariant w.in_ok-with.ensures
          ∙ sym (added_free placed column (sym c.is_free.ensures ∙ w.if-is_free.true)))
      | else-is_free w ↦
          rw w.nodes-is
          (c.loop-column.invariant
          ∙ sym (added_attacked placed column (sym c.is_free.ensures ∙ w.if-is_free.false)))
    ]

-- The count at the last depth is the number of ways.
use Rattle.std.proofs.Common.{◌≡◌, ℕ, ◌+◌, ◌<◌, List, length, slice_index, ap, sym, ◌∙◌, arith}
use Rattle.std.proofs.lemmas.List.FromFn.{get_or-map-range_with_len, length-map-range_with_len}
use Rattle.yew_kinds.specs.DepthCounts.{saturated, members_at, depth_counts}
use Rattle.yew_laws.specs.SearchTree.{preorder}
use Rattle.yew_queens.specs.Boards.{number_of_ways}
use Rattle.yew_queens.specs.BoardTree.{board_tree}
use Rattle.yew_queens.proofs.RowCounts.{nodes-in_row}

module _ (board size : ℕ) (same : size ≡ board) (sum : List ℕ) (is : sum ≡ depth_counts (board_tree board) size) where
  abbrev row_count : ℕ → ℕ
  row_count rows = saturated (members_at rows (preorder (board_tree board)))

  pub last-within : size < length sum
  last-within =
      let counted : length sum ≡ size + 1 = ap length is ∙ length-map-range_with_len row_count 0 (size + 1) in omega arith

  pub last-is : slice_index sum size ≡ saturated (number_of_ways size)
  last-is =
      ap (λ counts. slice_index counts size) is
      ∙ get_or-map-range_with_len row_count 0 (size + 1) size size 0 (omega arith) (omega arith)
      ∙ ap (λ b. saturated (members_at size (preorder (board_tree b)))) (sym same)
      ∙ ap saturated (nodes-in_row size size (omega arith))

use Rattle.yew_queens.proofs.RowCounts.{nodes-in_row}
use Rattle.yew_queens.proofs.laws.nodes_by_row.Goals as goal

pub returns : goal.returns
returns c = λ rows within. nodes-in_row c.args.size rows within

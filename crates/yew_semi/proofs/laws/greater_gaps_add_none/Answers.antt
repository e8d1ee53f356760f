use Rattle.yew_semi.proofs.Once.{gap_sets-greater}
use Rattle.yew_semi.proofs.laws.greater_gaps_add_none.Goals as goal

pub returns : goal.returns
returns c = λ k high most. gap_sets-greater k high most

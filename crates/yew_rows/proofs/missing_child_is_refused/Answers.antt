use Rattle.yew_rows.proofs.Refused.{missing_child-refused}
use Rattle.yew_rows.proofs.missing_child_is_refused.Goals as goal

pub returns : goal.returns
returns c = missing_child-refused

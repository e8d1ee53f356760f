use Rattle.yew_rows.proofs.Refused.{tasks_fall-refused, two_handed-refused, group_missing-refused}
use Rattle.yew_rows.proofs.wrong_skeletons_are_refused.Goals as goal

pub returns : goal.returns
returns c = record { tasks_fall = tasks_fall-refused; two_handed = two_handed-refused; group_missing = group_missing-refused }

use Rattle.yew_rows.proofs.Refused.{cut_dropped-refused, held_falls-refused, cut_above-refused, ended_twice-refused, held_inexact-refused, visit_not_due-refused}
use Rattle.yew_rows.proofs.wrong_logs_are_refused.Goals as goal

pub returns : goal.returns
returns c = record { cut_dropped = cut_dropped-refused; held_falls = held_falls-refused; cut_above = cut_above-refused; ended_twice = ended_twice-refused; held_inexact = held_inexact-refused; visit_not_due = visit_not_due-refused }

use Rattle.std.proofs.Common.{length}
use Rattle.yew_lad.specs.Tables.{IsFilled, is_partner}
use Rattle.yew_lad.proofs.tables.partners.Given as goal

abbrev pub invariant-loop-place : goal.invariant-loop-place
invariant-loop-place l = IsFilled (length l.order) 1 (is_partner l.graph l.order) l.place 0 l.table

abbrev pub invariant-loop-earlier : goal.invariant-loop-earlier
invariant-loop-earlier l = IsFilled (length l.order) 1 (is_partner l.graph l.order) l.place l.earlier l.table

use Rattle.yew_span.specs.Places.{IsRowSymmetric}
use Rattle.yew_span.proofs.spanned.is_row_symmetric.Given as goal

abbrev pub invariant-loop-other : goal.invariant-loop-other
invariant-loop-other l = IsRowSymmetric l.tours l.city l.other

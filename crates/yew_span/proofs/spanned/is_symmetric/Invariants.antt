use Rattle.std.proofs.Common.{ℕ, ◌<◌, ◌≤◌}
use Rattle.yew_span.specs.Places.{IsRowSymmetric}
use Rattle.yew_span.proofs.spanned.is_symmetric.Given as goal

abbrev pub invariant-loop-city : goal.invariant-loop-city
invariant-loop-city l = (i : ℕ) → 1 ≤ i → i < l.city → IsRowSymmetric l.tours i i

use Rattle.std.proofs.Common.{◌≡◌, true, take}
use Rattle.yew_laws.specs.Sets.{are_different, are_within}
use Rattle.yew_span.proofs.tests.are_cities.Given as goal

abbrev pub invariant-loop-place : goal.invariant-loop-place
invariant-loop-place l = record {
  different : are_different (take l.place l.cities) ≡ true;
  within : are_within 1 l.count (take l.place l.cities) ≡ true;
}

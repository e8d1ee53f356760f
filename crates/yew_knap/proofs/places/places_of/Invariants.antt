use Rattle.std.proofs.Common.{◌≡◌, ◌++◌, ◌*◌, ◌^◌, ◌≤◌, drop}
use Rattle.yew_knap.specs.Places.{all_places}
use Rattle.yew_knap.proofs.places.places_of.Given as goal

abbrev pub invariant-loop-place : goal.invariant-loop-place
invariant-loop-place l = record {
  rest : l.places.items ++ all_places l.profit l.weight (drop l.place l.items) ≡ all_places 0 0 l.items;
  profit : l.profit ≤ l.place * 2 ^ 32;
  weight : l.weight ≤ l.place * 2 ^ 32;
}

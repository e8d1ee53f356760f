use Rattle.std.proofs.Common.{◌≡◌, ◌+◌, drop}
use Rattle.yew_knap.specs.Places.{next_item}
use Rattle.yew_knap.proofs.places.next_item.Given as goal

abbrev pub invariant-loop-item : goal.invariant-loop-item
invariant-loop-item l = record {
  rest : next_item l.next (drop l.item-index l.items) ≡ next_item l.place l.items;
  at : l.next ≡ l.place + l.item-index;
}

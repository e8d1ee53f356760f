use Rattle.std.proofs.Common.{◌≡◌, drop}
use Rattle.yew_knap.specs.Places.{least_weight}
use Rattle.yew_knap.proofs.places.least_weight.Given as goal

abbrev pub invariant-loop-item : goal.invariant-loop-item
invariant-loop-item l = least_weight l.least (drop l.item-index l.items) ≡ least_weight l.weight l.items

use Rattle.std.proofs.Common.{◌-◌, ◌≤◌, length}
use Rattle.yew_knap.specs.Places.{weight_before}
use Rattle.yew_knap.specs.Copies.{searched_copies}
use Rattle.yew_knap.proofs.knapsack.Knapsack.find_breaking.Given as goal

abbrev pub invariant-loop-place : goal.invariant-loop-place
invariant-loop-place l = (l.place ≤ length (searched_copies l.self)) × (weight_before (searched_copies l.self) l.place ≤ l.room)

abbrev pub decreases-loop-place : goal.decreases-loop-place
decreases-loop-place l = length (searched_copies l.self) - l.place

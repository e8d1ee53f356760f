use Rattle.std.proofs.Common.{◌≡◌, ◌++◌}
use Rattle.yew_knap.specs.Copies.{searched_copies}
use Rattle.yew_knap.proofs.Lines.{items_from}
use Rattle.yew_knap.proofs.knapsack.Knapsack.push_items.Given as goal

abbrev pub invariant-loop-item : goal.invariant-loop-item
invariant-loop-item l = l.out.items ++ items_from l.chosen (searched_copies l.self) l.self.items l.item ≡ l.initial.out.items ++ items_from l.chosen (searched_copies l.self) l.self.items 0

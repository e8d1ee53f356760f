use Rattle.std.proofs.Common.{◌≡◌, ◌*◌, map}
use Rattle.yew_make.specs.Draws.{state_after}
use Rattle.yew_make.specs.Knapsacks.{item_of, items_from}
use Rattle.yew_make.proofs.knapsack.draw_items.Given as goal

-- the first items are there, each of two words
abbrev pub invariant-loop : goal.invariant-loop
invariant-loop l = record {
  items : map item_of l.items.items ≡ items_from l.fn.draws l.counter;
  state : l.draws ≡ state_after l.fn.draws (2 * l.counter);
}

use Rattle.std.proofs.Common.{◌≡◌, ◌+◌, ◌-◌, ◌++◌}
use Rattle.yew_knap.specs.Copies.{copies_from}
use Rattle.yew_knap.proofs.copies.push_copies.Given as goal

abbrev pub invariant-loop-turn : goal.invariant-loop-turn
invariant-loop-turn l = l.copies.items ++ copies_from l.item l.turn (l.first + l.turn) (l.item.copies - l.turn) ≡ l.initial.copies.items ++ copies_from l.item 0 l.first l.item.copies

use Rattle.std.proofs.Common.{◌≡◌, ◌++◌}
use Rattle.yew_knap.proofs.Lines.{item_from}
use Rattle.yew_knap.proofs.texts.push_item.Given as goal

abbrev pub invariant-loop-copy : goal.invariant-loop-copy
invariant-loop-copy l = l.out.items ++ item_from l.chosen l.copies l.item l.copy-index ≡ l.initial.out.items ++ item_from l.chosen l.copies l.item 0

use Rattle.std.proofs.Common.{◌≡◌, ◌+◌, ◌≤◌, ◌++◌, length, drop}
use Rattle.std.specs.List.{sum_by}
use Rattle.yew_knap.specs.Copies.{all_copies}
use Rattle.yew_knap.specs.declared.order.Numbered.{Numbered}
use Rattle.yew_knap.proofs.copies.copies_of.Given as goal

abbrev pub invariant-loop-item : goal.invariant-loop-item
invariant-loop-item l = record {
  rest : l.copies.items ++ all_copies (length l.copies.items) (drop l.item-index l.items) ≡ all_copies 0 l.items;
  few : length l.copies.items + sum_by (λ (item : Numbered). item.copies) (drop l.item-index l.items) ≤ 256;
}

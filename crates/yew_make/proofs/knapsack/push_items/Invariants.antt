use Rattle.std.proofs.Common.{◌≡◌, ◌++◌, map, take}
use Rattle.yew_knap.specs.declared.form.Form.TheVariants.{Pairs}
use Rattle.yew_knap.specs.Files.{item_numbers}
use Rattle.yew_make.specs.Knapsacks.{item_of}
use Rattle.yew_knap.specs.Rows.{row_lines}
use Rattle.yew_make.proofs.knapsack.push_items.Given as goal

-- the first lines are there
abbrev pub invariant-loop-item : goal.invariant-loop-item
invariant-loop-item l = l.out.items ≡ l.fn.out.items ++ row_lines (map (item_numbers Pairs) (map item_of (take l.item-index l.items)))

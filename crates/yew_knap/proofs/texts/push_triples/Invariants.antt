use Rattle.std.proofs.Common.{◌≡◌, ◌++◌, map, take}
use Rattle.yew_knap.specs.declared.form.Form.TheVariants.{Triples}
use Rattle.yew_knap.specs.Files.{item_numbers}
use Rattle.yew_knap.specs.Rows.{row_lines}
use Rattle.yew_knap.proofs.texts.push_triples.Given as goal

abbrev pub invariant-loop-item : goal.invariant-loop-item
invariant-loop-item l = l.out.items ≡ l.initial.out.items ++ row_lines (map (item_numbers Triples) (take l.item-index l.items))

use Rattle.std.proofs.Common.{List, ◌++◌, length, map, ap, ◌∙◌, arith}
use Rattle.std.specs.Prelude.{sum_by}
use Rattle.std.proofs.lemmas.Result.{on_ok_weaker}
use Rattle.yew_make.specs.declared.knapsack.MadeItem.{MadeItem}
use Rattle.yew_knap.specs.declared.form.Form.TheVariants.{Pairs}
use Rattle.yew_knap.specs.Files.{item_numbers}
use Rattle.yew_make.specs.Knapsacks.{item_of}
use Rattle.yew_knap.specs.Rows.{row_lines}
use Rattle.yew_make.proofs.Items.{items-many, knapsack-pushed}
use Rattle.yew_make.proofs.knapsack.push_knapsack.Goals as goal

pub total_weight-capacity-requires : goal.total_weight-capacity-requires
total_weight-capacity-requires c =
    let many = items-many c.args.draws.now c.args.size c.in_ok-items.items.items c.in_ok-items.ensures in
    let same = ap (λ (l : List MadeItem). length l) c.as_slice.ensures.value in
    let few = c.requires in
    omega (arith, many, same, few)

pub returns : goal.returns
returns c =
    let items = c.in_ok-items.items.items in
    on_ok_weaker c.push_items.result
    (λ e.
    knapsack-pushed c.args.draws.now c.args.size items c.total_weight-capacity.result c.args.out.now.items c.push_pair.new.out.items c.push_items.new.out.items c.in_ok-items.ensures
    (c.total_weight-capacity.ensures ∙ ap (sum_by (λ (item : MadeItem). item.weight)) c.as_slice.ensures.value)
    c.in_ok-push_pair.ensures
    (e ∙ ap (λ (l : List MadeItem). c.push_pair.new.out.items ++ row_lines (map (item_numbers Pairs) (map item_of l))) c.as_slice-2.ensures.value))
    c.push_items.ensures

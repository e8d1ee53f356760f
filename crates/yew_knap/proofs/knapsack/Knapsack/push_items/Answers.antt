use Rattle.std.proofs.Common.{◌++◌, ◌∙◌, ◌<◌, List, length, ap, sym, subst, arith}
use Rattle.std.specs.List.{AllByRecursion}
use Rattle.yew_knap.specs.declared.copies.ItemCopy.{ItemCopy}
use Rattle.yew_knap.specs.declared.knapsack.Item.{Item}
use Rattle.yew_knap.specs.Copies.{searched_copies}
use Rattle.yew_knap.specs.CopyLaws.{searched_copies-below}
use Rattle.yew_knap.proofs.Lines.{item_from, items_from, item-written}
use Rattle.yew_knap.proofs.knapsack.Knapsack.push_items.Goals as goal

pub push_item-requires-clause-indexes : goal.push_item-requires-clause-indexes
push_item-requires-clause-indexes c =
    subst (AllByRecursion (λ (copy : ItemCopy). copy.index < 256)) (sym c.copies.ensures) (searched_copies-below c.args.self.now c.requires.few_copies)

pub loop-item-preserved : goal.loop-item-preserved
loop-item-preserved c =
    item-written c.args.chosen.now (searched_copies c.args.self.now) c.args.self.now.items c.loop-item.item (omega (arith, c.loop-item-test.true, ap (λ (l : List Item). length l) c.items-item-end.ensures)) c.loop-item.out.items
    (c.push_text.new.out.items ++ items_from c.args.chosen.now (searched_copies c.args.self.now) c.args.self.now.items 0) c.loop-item.invariant
    c.push_item.new.out.items (c.in_ok-push_item.ensures ∙ ap (λ copies. c.loop-item.out.items ++ item_from c.args.chosen.now copies c.loop-item.item 0) c.copies.ensures)

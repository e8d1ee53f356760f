use Rattle.std.proofs.Common.{◌++◌, ◌∙◌, if◌then◌else◌, ap, arith}
use Rattle.yew_knap.proofs.Lines.{item_from, written}
use Rattle.yew_knap.proofs.texts.push_item.Goals as goal

pub loop-copy-preserved : goal.loop-copy-preserved
loop-copy-preserved c =
    written c.args.chosen.now c.args.copies.now c.args.item c.loop-copy.copy-index (omega (arith, c.loop-copy-test.true)) c.loop-copy.out.items
    (c.args.out.now.items ++ item_from c.args.chosen.now c.args.copies.now c.args.item 0) c.loop-copy.invariant (c.is_chosen.ensures ∙ ap (λ b. if b then 1 else 0) c.if-not-is_chosen.false)
    c.push_spaced.new.out.items c.in_ok-push_spaced.ensures

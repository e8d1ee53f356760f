use Rattle.std.proofs.Common.{ℕ, map, sym, ap, ◌∙◌}
use Rattle.yew_make.specs.declared.knapsack.MadeItem.{MadeItem}
use Rattle.yew_make.specs.Draws.{next_state, word_of, weight_of}
use Rattle.yew_make.specs.Knapsacks.{item_of}
use Rattle.yew_make.proofs.Generator.{state_after-none}
use Rattle.yew_make.proofs.Items.{state_after-two, items-more}
use Rattle.yew_make.proofs.knapsack.draw_items.Goals as goal

pub loop-init : goal.loop-init
loop-init c = record { items = ap (map item_of) c.in_ok-items.ensures.items; state = sym (state_after-none c.args.draws.now) }

pub loop-preserved : goal.loop-preserved
loop-preserved c =
    let s = c.args.draws.now in
    let k = c.loop.counter in
    let item : MadeItem = record { profit = c.weight-profit.result; weight = c.weight-weight.result } in
    let later = c.weight-profit.ensures.next in
    record {
      items =
          ap (map item_of) c.in_ok-push.ensures.items
          ∙ items-more s k c.loop.draws c.loop.items.items item c.loop.invariant.state c.loop.invariant.items c.weight-profit.ensures.weight
          (c.weight-weight.ensures.weight ∙ ap (λ (t : ℕ). weight_of (word_of t)) later);
      state = c.weight-weight.ensures.next ∙ ap next_state later ∙ state_after-two s k c.loop.draws c.loop.invariant.state;
    }

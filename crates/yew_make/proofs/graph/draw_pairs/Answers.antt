use Rattle.std.proofs.Common.{ap, sym, ◌∙◌}
use Rattle.yew_make.specs.Draws.{next_state}
use Rattle.yew_make.proofs.Generator.{state_after-none, state_after-more}
use Rattle.yew_make.proofs.Pairs.{pairs-more}
use Rattle.yew_make.proofs.graph.draw_pairs.Goals as goal

pub loop-init : goal.loop-init
loop-init c = record { pairs = c.in_ok-pairs.ensures.items; state = sym (state_after-none c.args.draws.now) }

pub loop-preserved : goal.loop-preserved
loop-preserved c =
    let s = c.args.draws.now in
    let k = c.loop.counter in
    record {
      pairs = c.in_ok-push.ensures.items ∙ pairs-more s k c.loop.draws c.word.result c.loop.pairs.items c.loop.invariant.state c.word.ensures.word c.loop.invariant.pairs;
      state = c.word.ensures.next ∙ ap next_state c.loop.invariant.state ∙ sym (state_after-more s k);
    }

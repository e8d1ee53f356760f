use Rattle.std.proofs.Common.{ℕ, List, ◌++◌, decimal, sym, ap, ◌∙◌, append_assoc}
use Rattle.yew_make.specs.Draws.{next_state, weights_from}
use Rattle.yew_knap.specs.Rows.{spaced_apart}
use Rattle.yew_lines.specs.Spelling.{spaced}
use Rattle.yew_make.proofs.Generator.{state_after-none, state_after-more}
use Rattle.yew_make.proofs.RowSteps.{weights_from-one, weights_from-more}
use Rattle.yew_make.proofs.rows.push_weights.Goals as goal

pub loop-init : goal.loop-init
loop-init c =
    let s = c.args.draws.now in
    let old = c.args.out.now.items in
    record {
      text = c.in_ok-push_number.ensures ∙ ap (λ (n : ℕ). old ++ decimal n) c.weight.ensures.weight ∙ ap (λ (t : List ℕ). old ++ t) (sym (weights_from-one s));
      state = c.weight.ensures.next ∙ ap next_state (sym (state_after-none s)) ∙ sym (state_after-more s 0);
    }

pub loop-preserved : goal.loop-preserved
loop-preserved c =
    let s = c.args.draws.now in
    let k = c.loop.counter in
    let old = c.args.out.now.items in
    let first = spaced_apart (weights_from s 0 k) in
    record {
      text =
          c.in_ok-push_spaced.ensures
          ∙ ap (λ (t : List ℕ). t ++ spaced c.weight-in-loop.result) c.loop.invariant.text
          ∙ append_assoc old first (spaced c.weight-in-loop.result)
          ∙ ap (λ (n : ℕ). old ++ (first ++ spaced n)) c.weight-in-loop.ensures.weight
          ∙ ap (λ (t : List ℕ). old ++ t) (sym (weights_from-more s k c.loop.draws c.loop.auto.counter c.loop.invariant.state));
      state = c.weight-in-loop.ensures.next ∙ ap next_state c.loop.invariant.state ∙ sym (state_after-more s k);
    }

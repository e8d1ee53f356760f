use Rattle.std.proofs.Common.{◌≡◌, ◌++◌}
use Rattle.yew_make.specs.Draws.{state_after, weights_from}
use Rattle.yew_knap.specs.Rows.{spaced_apart}
use Rattle.yew_make.proofs.rows.push_weights.Given as goal

-- the first weights are there
abbrev pub invariant-loop : goal.invariant-loop
invariant-loop l = record {
  text : l.out.items ≡ l.fn.out.items ++ spaced_apart (weights_from l.fn.draws 0 l.counter);
  state : l.draws ≡ state_after l.fn.draws l.counter;
}

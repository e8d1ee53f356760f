use Rattle.std.proofs.Common.{◌≡◌, map}
use Rattle.std.specs.List.{range_with_len}
use Rattle.yew_make.specs.Draws.{state_after, word_from}
use Rattle.yew_make.specs.Graphs.{joins}
use Rattle.yew_make.proofs.graph.draw_pairs.Given as goal

-- the first pairs are there
abbrev pub invariant-loop : goal.invariant-loop
invariant-loop l = record {
  pairs : l.pairs.items ≡ map (λ place. joins (word_from l.fn.draws place)) (range_with_len 0 l.counter);
  state : l.draws ≡ state_after l.fn.draws l.counter;
}

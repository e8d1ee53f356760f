use Rattle.std.proofs.Common.{◌≡◌, ◌*◌}
use Rattle.yew_lad.specs.Kids.{candidates_from}
use Rattle.yew_lad.proofs.subgraph.Subgraph.next_word.Given as goal

abbrev pub invariant-loop-number : goal.invariant-loop-number
invariant-loop-number l = candidates_from l.self l.node (64 * l.from) ≡ candidates_from l.self l.node (64 * l.number)

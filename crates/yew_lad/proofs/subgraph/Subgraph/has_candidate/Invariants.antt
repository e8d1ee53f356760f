use Rattle.std.proofs.Common.{◌≡◌, ℕ, ◌*◌, ◌<◌, false}
use Rattle.yew_lad.specs.Digraphs.{vertex_count}
use Rattle.yew_lad.specs.Nodes.{vertex_at, is_candidate}
use Rattle.yew_lad.proofs.subgraph.Subgraph.has_candidate.Given as goal

abbrev pub invariant-loop-number : goal.invariant-loop-number
invariant-loop-number l = (t : ℕ) → t < 64 * l.number → t < vertex_count l.self.target → is_candidate l.self l.node (vertex_at l.self l.place) t ≡ false

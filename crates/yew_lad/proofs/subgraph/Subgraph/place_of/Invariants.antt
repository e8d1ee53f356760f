use Rattle.std.proofs.Common.{◌≡◌, ℕ, ◌<◌, ◌==◌, false}
use Rattle.yew_lad.specs.Nodes.{vertex_at}
use Rattle.yew_lad.proofs.subgraph.Subgraph.place_of.Given as goal

abbrev pub invariant-loop-place : goal.invariant-loop-place
invariant-loop-place l = (k : ℕ) → k < l.place → (vertex_at l.self k == l.v) ≡ false

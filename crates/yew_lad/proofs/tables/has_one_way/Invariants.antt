use Rattle.std.proofs.Common.{◌≡◌, ℕ, ◌<◌, false}
use Rattle.yew_lad.specs.Digraphs.{vertex_count}
use Rattle.yew_lad.specs.Tables.{is_one_way}
use Rattle.yew_lad.proofs.tables.has_one_way.Given as goal

abbrev pub invariant-loop-u : goal.invariant-loop-u
invariant-loop-u l = (a b : ℕ) → a < l.u → b < vertex_count l.graph → is_one_way l.graph a b ≡ false

abbrev pub invariant-loop-v : goal.invariant-loop-v
invariant-loop-v l = (b : ℕ) → b < l.v → is_one_way l.graph l.u b ≡ false

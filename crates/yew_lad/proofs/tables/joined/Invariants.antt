use Rattle.yew_lad.specs.Digraphs.{vertex_count}
use Rattle.yew_lad.specs.Tables.{IsFilled, is_joined, words_for}
use Rattle.yew_lad.proofs.tables.joined.Given as goal

abbrev pub invariant-loop-v : goal.invariant-loop-v
invariant-loop-v l = IsFilled (vertex_count l.graph) (words_for (vertex_count l.graph)) (is_joined l.graph) l.v 0 l.table

abbrev pub invariant-loop-t : goal.invariant-loop-t
invariant-loop-t l = IsFilled (vertex_count l.graph) (words_for (vertex_count l.graph)) (is_joined l.graph) l.v l.t l.table

use Rattle.std.proofs.Common.{◌∙◌, ap₂, arith}
use Rattle.yew_lad.specs.Bits.{empty_table}
use Rattle.yew_lad.specs.Digraphs.{vertex_count, is_arc}
use Rattle.yew_lad.specs.Tables.{is_arc_back, words_for}
use Rattle.yew_lad.proofs.TableLaws.{filled-none, filled-put, passes}
use Rattle.yew_lad.proofs.tables.predecessors.Goals as goal

pub loop-v-init : goal.loop-v-init
loop-v-init c = filled-none (vertex_count c.args.graph.now) (words_for (vertex_count c.args.graph.now)) (is_arc_back c.args.graph.now) c.in_ok-table.table (c.in_ok-table.ensures ∙ ap₂ empty_table c.size.ensures.value c.width.ensures)

pub loop-t-preserved : goal.loop-t-preserved
loop-t-preserved c = filled-put (vertex_count c.args.graph.now) (words_for (vertex_count c.args.graph.now)) (is_arc_back c.args.graph.now) c.loop-v.v c.loop-t.t c.loop-t.table c.loop-t.invariant c.has_arc.result c.put.new.self (passes c.loop-t.t (vertex_count c.args.graph.now) c.has_arc.result (is_arc c.args.graph.now c.loop-t.t c.loop-v.v) (let l = c.loop-t-test.true in let n = c.size-t-end.ensures.value in omega arith) c.has_arc.ensures) c.put.ensures

use Rattle.std.proofs.Common.{◌∙◌, ap₂, arith}
use Rattle.yew_lad.specs.Bits.{empty_table}
use Rattle.yew_lad.specs.Digraphs.{vertex_count}
use Rattle.yew_lad.specs.Tables.{are_joined, is_joined, words_for}
use Rattle.yew_lad.proofs.TableLaws.{filled-none, filled-put, passes}
use Rattle.yew_lad.proofs.tables.joined.Goals as goal

pub loop-v-init : goal.loop-v-init
loop-v-init c = filled-none (vertex_count c.args.graph.now) (words_for (vertex_count c.args.graph.now)) (is_joined c.args.graph.now) c.in_ok-table.table (c.in_ok-table.ensures ∙ ap₂ empty_table c.size.ensures.value c.width.ensures)

pub loop-t-preserved : goal.loop-t-preserved
loop-t-preserved c = filled-put (vertex_count c.args.graph.now) (words_for (vertex_count c.args.graph.now)) (is_joined c.args.graph.now) c.loop-v.v c.loop-t.t c.loop-t.table c.loop-t.invariant c.are_joined.result c.put.new.self (passes c.loop-t.t (vertex_count c.args.graph.now) c.are_joined.result (are_joined c.args.graph.now c.loop-v.v c.loop-t.t) (let l = c.loop-t-test.true in let n = c.size-t-end.ensures.value in omega arith) c.are_joined.ensures) c.put.ensures

use Rattle.std.proofs.Common.{◌≡◌, ◌+◌, ◌/◌, ◌∙◌, ap, arith}
use Rattle.yew_lad.specs.Bits.{BitTable, in_row}
use Rattle.yew_lad.proofs.BitLaws.{in_row-empty}
use Rattle.yew_lad.proofs.FileSteps.{no_vertices, vertex_fault, vertex_read}
use Rattle.yew_lad.proofs.reading.read_vertices.Goals as goal
use Rattle.yew_lad.proofs.reading.read_vertices.Goals.{then-n-most, else-n-most}

pub loop-u-init : goal.loop-u-init
loop-u-init c = record {
  read = no_vertices c.args.n c.args.cursor.now c.in-Ok.arcs (λ a b. ap (λ t. in_row t a b) c.in-Ok.ensures ∙ in_row-empty c.if-n-most.size ((c.if-n-most.size + 63) / 64) a b);
  sized = λ few.
      let size : c.if-n-most.size ≡ c.args.n = elim c.if-n-most.branch [ then-n-most w ↦ omega arith | else-n-most w ↦ omega arith ] in
      let most = c.requires.most in
      record {
        rows_are = ap (λ (t : BitTable). t.rows) c.in-Ok.ensures ∙ size;
        width_is = ap (λ (t : BitTable). t.width) c.in-Ok.ensures ∙ ap (λ n. (n + 63) / 64) size;
        few = omega arith;
      };
  same = λ i. c.args.cursor.now.bytes;
}

pub returns-in-Err-read_vertex-clause-read : goal.returns-in-Err-read_vertex-clause-read
returns-in-Err-read_vertex-clause-read c = vertex_fault c.args.n c.loop-u.u c.loop-u-test.true c.args.cursor.now c.loop-u.cursor c.loop-u.arcs c.loop-u.invariant.read c.in-Err-read_vertex.fault c.in-Err-read_vertex.ensures.read

pub loop-u-preserved : goal.loop-u-preserved
loop-u-preserved c =
    let read = c.in-Ok-read_vertex.ensures.read in record {
      read = vertex_read c.args.n c.loop-u.u c.loop-u-test.true c.args.cursor.now c.loop-u.cursor c.loop-u.arcs c.loop-u.invariant.read c.read_vertex.new.cursor c.read_vertex.new.arcs read;
      sized = λ few.
          let had = c.loop-u.invariant.sized few in
          record { rows_are = read.read.adds.same_rows ∙ had.rows_are; width_is = read.read.adds.same_width ∙ had.width_is; few = had.few };
      same = c.loop-u.invariant.same ∙ c.read_vertex.ensures.same;
    }

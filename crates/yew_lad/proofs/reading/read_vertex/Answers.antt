use Rattle.std.proofs.Common.{ℕ, suc, ◌≤◌, ◌<◌, ◌^◌, ◌∙◌, arith}
use Rattle.yew_text.specs.Numbers.{greatest}
use Rattle.yew_lad.proofs.FileSteps.{count_fault, none_read, successor_fault, no_vertex, successor_read}
use Rattle.yew_lad.proofs.reading.read_vertex.Goals as goal

pub returns-in-Err-clause-read : goal.returns-in-Err-clause-read
returns-in-Err-clause-read c = count_fault c.args.n c.args.u c.requires.u c.args.cursor.now c.args.arcs.now c.number.new.self c.in-Err.fault c.in-Err.ensures.taken

pub loop-k-init : goal.loop-k-init
loop-k-init c = record {
  read = none_read c.args.n c.args.u c.requires.u c.args.cursor.now c.args.arcs.now c.number.new.self c.in-Ok.number c.in-Ok.ensures.taken c.in-Ok.ensures.same;
  same = c.in-Ok.ensures.same;
}

within : (n : ℕ) → n < 2 ^ 63 → n ≤ suc greatest
within n l = omega arith

pub returns-in-Err-number-clause-read : goal.returns-in-Err-number-clause-read
returns-in-Err-number-clause-read c =
    successor_fault c.args.n c.args.u c.requires.u c.args.cursor.now c.args.arcs.now c.in-Ok.number c.loop-k.k c.loop-k-test.true c.loop-k.cursor c.loop-k.arcs c.loop-k.invariant.read
    (within c.args.n c.requires.n) c.number-in-loop-k.new.self c.in-Err-number.fault c.in-Err-number.ensures.taken

pub returns-then-v-n-clause-read : goal.returns-then-v-n-clause-read
returns-then-v-n-clause-read c =
    no_vertex c.args.n c.args.u c.requires.u c.args.cursor.now c.args.arcs.now c.in-Ok.number c.loop-k.k c.loop-k-test.true c.loop-k.cursor c.loop-k.arcs c.loop-k.invariant.read
    c.number-in-loop-k.new.self c.in-Ok-number.number c.line-line.result c.in-Ok-number.ensures.taken c.if-v-n.true c.line-line.ensures.value

pub loop-k-preserved : goal.loop-k-preserved
loop-k-preserved c = record {
  read =
      successor_read c.args.n c.args.u c.requires.u c.args.cursor.now c.args.arcs.now c.in-Ok.number c.loop-k.k c.loop-k-test.true c.loop-k.cursor c.loop-k.arcs c.loop-k.invariant.read
      c.number-in-loop-k.new.self c.in-Ok-number.number c.keep_arc.new.arcs c.in-Ok-number.ensures.taken c.in-Ok-number.ensures.same c.if-v-n.false c.keep_arc.ensures;
  same = c.loop-k.invariant.same ∙ c.in-Ok-number.ensures.same;
}

use Rattle.std.proofs.Common.{◌∙◌}
use Rattle.yew_knap.proofs.ItemSteps.{profit_fault, weight_fault, copies_fault, item_read}
use Rattle.yew_knap.proofs.reading.read_items.Goals as goal

pub returns-in-Err-clause-read : goal.returns-in-Err-clause-read
returns-in-Err-clause-read c =
    profit_fault c.args.form c.args.n c.args.capacity c.loop-k.k c.loop-k-test.true c.args.cursor.now c.loop-k.cursor c.loop-k.kept.items.items c.loop-k.kept.total c.loop-k.kept.past c.loop-k.invariant.read c.number.new.self c.in-Err.fault c.in-Err.ensures.taken

pub returns-in-Err-number-clause-read : goal.returns-in-Err-number-clause-read
returns-in-Err-number-clause-read c =
    weight_fault c.args.form c.args.n c.args.capacity c.loop-k.k c.loop-k-test.true c.args.cursor.now c.loop-k.cursor c.loop-k.kept.items.items c.loop-k.kept.total c.loop-k.kept.past c.loop-k.invariant.read c.number.new.self c.in-Ok.number c.in-Ok.ensures.taken c.in-Ok.ensures.same c.number-in-loop-k.new.self c.in-Err-number.fault c.in-Err-number.ensures.taken

pub returns-in-Err-read_copies-clause-read : goal.returns-in-Err-read_copies-clause-read
returns-in-Err-read_copies-clause-read c =
    copies_fault c.args.form c.args.n c.args.capacity c.loop-k.k c.loop-k-test.true c.args.cursor.now c.loop-k.cursor c.loop-k.kept.items.items c.loop-k.kept.total c.loop-k.kept.past c.loop-k.invariant.read c.number.new.self c.in-Ok.number c.in-Ok.ensures.taken c.in-Ok.ensures.same c.number-in-loop-k.new.self c.in-Ok-number.number c.in-Ok-number.ensures.taken c.in-Ok-number.ensures.same c.read_copies.new.cursor c.in-Err-read_copies.fault c.in-Err-read_copies.ensures.taken

pub loop-k-preserved : goal.loop-k-preserved
loop-k-preserved c = record {
  read = item_read c.args.form c.args.n c.args.capacity c.loop-k.k c.loop-k-test.true c.args.cursor.now c.loop-k.cursor c.loop-k.kept.items.items c.loop-k.kept.total c.loop-k.kept.past c.loop-k.invariant.read c.number.new.self c.in-Ok.number c.in-Ok.ensures.taken c.in-Ok.ensures.same c.number-in-loop-k.new.self c.in-Ok-number.number c.in-Ok-number.ensures.taken c.in-Ok-number.ensures.same c.read_copies.new.cursor c.in-Ok-read_copies.number c.in-Ok-read_copies.ensures.taken c.in-Ok-read_copies.ensures.same c.keep_item.new.kept.items.items c.keep_item.new.kept.total c.keep_item.new.kept.past c.in-Ok-keep_item.ensures;
  same = c.loop-k.invariant.same ∙ c.in-Ok.ensures.same ∙ c.in-Ok-number.ensures.same ∙ c.in-Ok-read_copies.ensures.same;
}

use Rattle.std.proofs.Common.{sym, subst}
use Rattle.yew_text.specs.Position.{words_left}
use Rattle.yew_knap.specs.Files.{IsBody}
use Rattle.yew_knap.specs.Instance.{IsWithinLimits}
use Rattle.yew_knap.proofs.FileReader.{first_fault, second_fault, items_end, surplus, too_large, is_body, is_within}
use Rattle.yew_knap.proofs.reading.read_body.Goals as goal

pub returns-in-Err-clause-end : goal.returns-in-Err-clause-end
returns-in-Err-clause-end c =
    first_fault c.args.form c.args.cursor.now c.number.new.self c.in-Err.fault c.in-Err.ensures.taken

pub returns-in-Err-number-clause-end : goal.returns-in-Err-number-clause-end
returns-in-Err-number-clause-end c =
    second_fault c.args.form c.args.cursor.now c.number.new.self c.in-Ok.number c.in-Ok.ensures.taken c.in-Ok.ensures.same c.number-2.new.self c.in-Err-number.fault c.in-Err-number.ensures.taken

pub returns-in-Err-read_items-clause-end : goal.returns-in-Err-read_items-clause-end
returns-in-Err-read_items-clause-end c =
    items_end c.args.form c.args.cursor.now c.number.new.self c.in-Ok.number c.in-Ok.ensures.taken c.in-Ok.ensures.same c.number-2.new.self c.in-Ok-number.number c.in-Ok-number.ensures.taken c.in-Ok-number.ensures.same c.in-Err-read_items.end c.in-Err-read_items.ensures.read

pub returns-in-Err-end-clause-end : goal.returns-in-Err-end-clause-end
returns-in-Err-end-clause-end c =
    surplus c.args.form c.args.cursor.now c.number.new.self c.in-Ok.number c.in-Ok.ensures.taken c.in-Ok.ensures.same c.number-2.new.self c.in-Ok-number.number c.in-Ok-number.ensures.taken c.in-Ok-number.ensures.same c.read_items.new.cursor c.in-Ok-read_items.read.items.items c.in-Ok-read_items.read.total c.in-Ok-read_items.read.past c.in-Ok-read_items.ensures.read c.in-Err-end.fault c.in-Err-end.ensures.ends

pub returns-in-Some-clause-end : goal.returns-in-Some-clause-end
returns-in-Some-clause-end c =
    too_large c.args.form c.args.cursor.now c.number.new.self c.in-Ok.number c.in-Ok.ensures.taken c.in-Ok.ensures.same c.number-2.new.self c.in-Ok-number.number c.in-Ok-number.ensures.taken c.in-Ok-number.ensures.same c.read_items.new.cursor c.in-Ok-read_items.read.items.items c.in-Ok-read_items.read.total c.in-Ok-read_items.read.past c.in-Ok-read_items.ensures.read c.in-Ok-end.ensures.ends c.in-Some.past c.in-Some.is

pub returns-in-Ok-new-clause-file : goal.returns-in-Ok-new-clause-file
returns-in-Ok-new-clause-file c =
    subst (IsBody c.args.form (words_left c.args.cursor.now)) (sym c.in-Ok-new.ensures)
    (is_body c.args.form c.args.cursor.now c.number.new.self c.in-Ok.number c.in-Ok.ensures.taken c.in-Ok.ensures.same c.number-2.new.self c.in-Ok-number.number c.in-Ok-number.ensures.taken c.in-Ok-number.ensures.same c.read_items.new.cursor c.in-Ok-read_items.read.items.items c.in-Ok-read_items.read.total c.in-Ok-read_items.read.past c.in-Ok-read_items.ensures.read c.in-Ok-end.ensures.ends c.in_default.is)

pub returns-in-Ok-new-clause-limits : goal.returns-in-Ok-new-clause-limits
returns-in-Ok-new-clause-limits c =
    subst IsWithinLimits (sym c.in-Ok-new.ensures)
    (is_within c.args.form c.args.cursor.now c.number.new.self c.in-Ok.number c.in-Ok.ensures.taken c.in-Ok.ensures.same c.number-2.new.self c.in-Ok-number.number c.in-Ok-number.ensures.taken c.in-Ok-number.ensures.same c.read_items.new.cursor c.in-Ok-read_items.read.items.items c.in-Ok-read_items.read.total c.in-Ok-read_items.read.past c.in-Ok-read_items.ensures.read c.in-Ok-end.ensures.ends c.in_default.is)

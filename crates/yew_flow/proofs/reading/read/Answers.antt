use Rattle.std.proofs.Common.{sym, subst}
use Rattle.yew_flow.specs.Files.{IsFlowFile}
use Rattle.yew_flow.specs.Instance.{IsWithinLimits}
use Rattle.yew_flow.specs.NodeLaws.{root-sound}
use Rattle.yew_flow.proofs.FileReader.{first_fault, second_fault, times_end, surplus, too_large, nothing_past, is_file, is_within}
use Rattle.yew_flow.proofs.reading.read.Goals as goal

pub returns-in-Err-clause-end : goal.returns-in-Err-clause-end
returns-in-Err-clause-end c =
    first_fault c.args.bytes.now c.new-cursor.result c.new-cursor.ensures c.read_count.new.cursor c.in-Err.fault c.in-Err.ensures.taken

pub returns-in-Err-read_count-clause-end : goal.returns-in-Err-read_count-clause-end
returns-in-Err-read_count-clause-end c =
    second_fault c.args.bytes.now c.new-cursor.result c.new-cursor.ensures c.read_count.new.cursor c.in-Ok.number c.in-Ok.ensures.taken c.in-Ok.ensures.same c.read_count-2.new.cursor c.in-Err-read_count.fault c.in-Err-read_count.ensures.taken

pub returns-in-Err-read_times-clause-end : goal.returns-in-Err-read_times-clause-end
returns-in-Err-read_times-clause-end c =
    times_end c.args.bytes.now c.new-cursor.result c.new-cursor.ensures c.read_count.new.cursor c.in-Ok.number c.in-Ok.ensures.taken c.in-Ok.ensures.same c.read_count-2.new.cursor c.in-Ok-read_count.number c.in-Ok-read_count.ensures.taken c.in-Ok-read_count.ensures.same c.in-Err-read_times.end c.in-Err-read_times.ensures.read

pub returns-in-Err-end-clause-end : goal.returns-in-Err-end-clause-end
returns-in-Err-end-clause-end c =
    surplus c.args.bytes.now c.new-cursor.result c.new-cursor.ensures c.read_count.new.cursor c.in-Ok.number c.in-Ok.ensures.taken c.in-Ok.ensures.same c.read_count-2.new.cursor c.in-Ok-read_count.number c.in-Ok-read_count.ensures.taken c.in-Ok-read_count.ensures.same c.read_times.new.cursor c.in-Ok-read_times.read.times.items c.in-Ok-read_times.read.past c.in-Ok-read_times.ensures.read c.in-Err-end.fault c.in-Err-end.ensures.ends

pub returns-in-Some-clause-end : goal.returns-in-Some-clause-end
returns-in-Some-clause-end c =
    too_large c.args.bytes.now c.new-cursor.result c.new-cursor.ensures c.read_count.new.cursor c.in-Ok.number c.in-Ok.ensures.taken c.in-Ok.ensures.same c.read_count-2.new.cursor c.in-Ok-read_count.number c.in-Ok-read_count.ensures.taken c.in-Ok-read_count.ensures.same c.read_times.new.cursor c.in-Ok-read_times.read.times.items c.in-Ok-read_times.read.past c.in-Ok-read_times.ensures.read c.in-Ok-end.ensures.ends c.in-Some.past c.in-Some.is

pub new-requires : goal.new-requires
new-requires c =
    is_within c.args.bytes.now c.new-cursor.result c.new-cursor.ensures c.read_count.new.cursor c.in-Ok.number c.in-Ok.ensures.taken c.in-Ok.ensures.same c.read_count-2.new.cursor c.in-Ok-read_count.number c.in-Ok-read_count.ensures.taken c.in-Ok-read_count.ensures.same c.read_times.new.cursor c.in-Ok-read_times.read.times.items c.in-Ok-read_times.read.past c.in-Ok-read_times.ensures.read c.in-Ok-end.ensures.ends c.in_default.is

pub returns-in-Ok-new-clause-file : goal.returns-in-Ok-new-clause-file
returns-in-Ok-new-clause-file c =
    subst (IsFlowFile c.args.bytes.now) (sym c.in-Ok-new.ensures)
    (is_file c.args.bytes.now c.new-cursor.result c.new-cursor.ensures c.read_count.new.cursor c.in-Ok.number c.in-Ok.ensures.taken c.in-Ok.ensures.same c.read_count-2.new.cursor c.in-Ok-read_count.number c.in-Ok-read_count.ensures.taken c.in-Ok-read_count.ensures.same c.read_times.new.cursor c.in-Ok-read_times.read.times.items c.in-Ok-read_times.read.past c.in-Ok-read_times.ensures.read c.in-Ok-end.ensures.ends c.in_default.is)

pub returns-in-Ok-new-clause-none_past : goal.returns-in-Ok-new-clause-none_past
returns-in-Ok-new-clause-none_past c =
    nothing_past c.args.bytes.now c.new-cursor.result c.new-cursor.ensures c.read_count.new.cursor c.in-Ok.number c.in-Ok.ensures.taken c.in-Ok.ensures.same c.read_count-2.new.cursor c.in-Ok-read_count.number c.in-Ok-read_count.ensures.taken c.in-Ok-read_count.ensures.same c.read_times.new.cursor c.in-Ok-read_times.read.times.items c.in-Ok-read_times.read.past c.in-Ok-read_times.ensures.read c.in-Ok-end.ensures.ends c.in_default.is

pub returns-in-Ok-new-clause-limits : goal.returns-in-Ok-new-clause-limits
returns-in-Ok-new-clause-limits c =
    subst IsWithinLimits (sym c.in-Ok-new.ensures)
    (is_within c.args.bytes.now c.new-cursor.result c.new-cursor.ensures c.read_count.new.cursor c.in-Ok.number c.in-Ok.ensures.taken c.in-Ok.ensures.same c.read_count-2.new.cursor c.in-Ok-read_count.number c.in-Ok-read_count.ensures.taken c.in-Ok-read_count.ensures.same c.read_times.new.cursor c.in-Ok-read_times.read.times.items c.in-Ok-read_times.read.past c.in-Ok-read_times.ensures.read c.in-Ok-end.ensures.ends c.in_default.is)

pub returns-in-Ok-new-clause-root : goal.returns-in-Ok-new-clause-root
returns-in-Ok-new-clause-root c =
    root-sound c.in-Ok-new.problem
    (subst IsWithinLimits (sym c.in-Ok-new.ensures)
    (is_within c.args.bytes.now c.new-cursor.result c.new-cursor.ensures c.read_count.new.cursor c.in-Ok.number c.in-Ok.ensures.taken c.in-Ok.ensures.same c.read_count-2.new.cursor c.in-Ok-read_count.number c.in-Ok-read_count.ensures.taken c.in-Ok-read_count.ensures.same c.read_times.new.cursor c.in-Ok-read_times.read.times.items c.in-Ok-read_times.read.past c.in-Ok-read_times.ensures.read c.in-Ok-end.ensures.ends c.in_default.is))

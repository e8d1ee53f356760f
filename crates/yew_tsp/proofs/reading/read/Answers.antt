use Rattle.std.proofs.Common.{◌∙◌, ap, sym, subst, arith}
use Rattle.yew_tsp.specs.Files.{IsTourFile}
use Rattle.yew_tsp.specs.Instance.{IsWithinLimits}
use Rattle.yew_tsp.specs.Matrices.{weights_of}
use Rattle.yew_tsp.specs.NodeLaws.{root-sound}
use Rattle.yew_tsp.proofs.FileReader.{header-fault, said-several, numbers-end, surplus, too_large, nothing_past, is_file, is_within}
use Rattle.yew_tsp.proofs.reading.read.Goals as goal

pub returns-in-Err-clause-end : goal.returns-in-Err-clause-end
returns-in-Err-clause-end c = header-fault c.args.bytes.now c.new-cursor.result c.new-cursor.ensures c.in-Err.fault c.in-Err.ensures.read

pub read_numbers-requires : goal.read_numbers-requires
read_numbers-requires c =
    let several = said-several c.args.bytes.now c.new-cursor.result c.new-cursor.ensures c.read_header.new.cursor c.in-Ok.said c.in-Ok.ensures.read c.in-Ok.ensures.same in
    omega (arith, several)

pub returns-in-Err-read_numbers-clause-end : goal.returns-in-Err-read_numbers-clause-end
returns-in-Err-read_numbers-clause-end c =
    numbers-end c.args.bytes.now c.new-cursor.result c.new-cursor.ensures c.read_header.new.cursor c.in-Ok.said c.in-Ok.ensures.read c.in-Ok.ensures.same c.in-Err-read_numbers.end c.in-Err-read_numbers.ensures.read

pub returns-in-Err-matrix_end-clause-end : goal.returns-in-Err-matrix_end-clause-end
returns-in-Err-matrix_end-clause-end c =
    surplus c.args.bytes.now c.new-cursor.result c.new-cursor.ensures c.read_header.new.cursor c.in-Ok.said c.in-Ok.ensures.read c.in-Ok.ensures.same c.read_numbers.new.cursor c.in-Ok-read_numbers.read.numbers.items c.in-Ok-read_numbers.read.past c.in-Ok-read_numbers.ensures.read c.in-Err-matrix_end.fault c.in-Err-matrix_end.ensures

pub returns-in-Some-clause-end : goal.returns-in-Some-clause-end
returns-in-Some-clause-end c =
    too_large c.args.bytes.now c.new-cursor.result c.new-cursor.ensures c.read_header.new.cursor c.in-Ok.said c.in-Ok.ensures.read c.in-Ok.ensures.same c.read_numbers.new.cursor c.in-Ok-read_numbers.read.numbers.items c.in-Ok-read_numbers.read.past c.in-Ok-read_numbers.ensures.read c.in-Ok-matrix_end.ensures c.in-Some.past c.in-Some.is

pub new-requires : goal.new-requires
new-requires c =
    is_within c.args.bytes.now c.new-cursor.result c.new-cursor.ensures c.read_header.new.cursor c.in-Ok.said c.in-Ok.ensures.read c.in-Ok.ensures.same c.read_numbers.new.cursor c.in-Ok-read_numbers.read.numbers.items c.in-Ok-read_numbers.read.past c.in-Ok-read_numbers.ensures.read c.in-Ok-matrix_end.ensures c.in_default.is c.in-Ok-weights.weights.items (c.in-Ok-weights.ensures ∙ ap (weights_of c.in-Ok.said.format c.in-Ok.said.cities) c.deref.ensures.value)

pub returns-in-Ok-new-clause-file : goal.returns-in-Ok-new-clause-file
returns-in-Ok-new-clause-file c =
    subst (IsTourFile c.args.bytes.now) (sym c.in-Ok-new.ensures)
    (is_file c.args.bytes.now c.new-cursor.result c.new-cursor.ensures c.read_header.new.cursor c.in-Ok.said c.in-Ok.ensures.read c.in-Ok.ensures.same c.read_numbers.new.cursor c.in-Ok-read_numbers.read.numbers.items c.in-Ok-read_numbers.read.past c.in-Ok-read_numbers.ensures.read c.in-Ok-matrix_end.ensures c.in_default.is c.in-Ok-weights.weights.items (c.in-Ok-weights.ensures ∙ ap (weights_of c.in-Ok.said.format c.in-Ok.said.cities) c.deref.ensures.value))

pub returns-in-Ok-new-clause-none_past : goal.returns-in-Ok-new-clause-none_past
returns-in-Ok-new-clause-none_past c =
    nothing_past c.args.bytes.now c.new-cursor.result c.new-cursor.ensures c.read_header.new.cursor c.in-Ok.said c.in-Ok.ensures.read c.in-Ok.ensures.same c.read_numbers.new.cursor c.in-Ok-read_numbers.read.numbers.items c.in-Ok-read_numbers.read.past c.in-Ok-read_numbers.ensures.read c.in-Ok-matrix_end.ensures c.in_default.is

pub returns-in-Ok-new-clause-limits : goal.returns-in-Ok-new-clause-limits
returns-in-Ok-new-clause-limits c =
    subst IsWithinLimits (sym c.in-Ok-new.ensures)
    (is_within c.args.bytes.now c.new-cursor.result c.new-cursor.ensures c.read_header.new.cursor c.in-Ok.said c.in-Ok.ensures.read c.in-Ok.ensures.same c.read_numbers.new.cursor c.in-Ok-read_numbers.read.numbers.items c.in-Ok-read_numbers.read.past c.in-Ok-read_numbers.ensures.read c.in-Ok-matrix_end.ensures c.in_default.is c.in-Ok-weights.weights.items (c.in-Ok-weights.ensures ∙ ap (weights_of c.in-Ok.said.format c.in-Ok.said.cities) c.deref.ensures.value))

pub returns-in-Ok-new-clause-root : goal.returns-in-Ok-new-clause-root
returns-in-Ok-new-clause-root c =
    root-sound c.in-Ok-new.problem
    (subst IsWithinLimits (sym c.in-Ok-new.ensures)
    (is_within c.args.bytes.now c.new-cursor.result c.new-cursor.ensures c.read_header.new.cursor c.in-Ok.said c.in-Ok.ensures.read c.in-Ok.ensures.same c.read_numbers.new.cursor c.in-Ok-read_numbers.read.numbers.items c.in-Ok-read_numbers.read.past c.in-Ok-read_numbers.ensures.read c.in-Ok-matrix_end.ensures c.in_default.is c.in-Ok-weights.weights.items (c.in-Ok-weights.ensures ∙ ap (weights_of c.in-Ok.said.format c.in-Ok.said.cities) c.deref.ensures.value)))

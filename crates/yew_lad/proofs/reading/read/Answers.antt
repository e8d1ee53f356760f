use Rattle.std.proofs.Common.{◌≡◌, ap, sym, subst, ◌∙◌, arith}
use Rattle.yew_lad.specs.Digraphs.{vertex_count}
use Rattle.yew_lad.specs.Files.{IsGraphFile}
use Rattle.yew_lad.proofs.Arcs.{vertex_count-in}
use Rattle.yew_lad.proofs.FileReader.{number-small, first_fault, vertices_end, surplus, too_large, is_graph}
use Rattle.yew_lad.proofs.reading.read.Goals as goal

pub returns-in-Err-clause-end : goal.returns-in-Err-clause-end
returns-in-Err-clause-end c =
    first_fault c.args.bytes.now c.new-cursor.result c.new-cursor.ensures c.number.new.self c.in-Err.fault c.in-Err.ensures.taken

pub read_vertices-requires-clause-n : goal.read_vertices-requires-clause-n
read_vertices-requires-clause-n c = number-small c.new-cursor.result c.number.new.self c.in-Ok.number c.in-Ok.ensures.taken

pub returns-in-Err-read_vertices-clause-end : goal.returns-in-Err-read_vertices-clause-end
returns-in-Err-read_vertices-clause-end c =
    vertices_end c.args.bytes.now c.new-cursor.result c.new-cursor.ensures c.number.new.self c.in-Ok.number c.in-Ok.ensures.taken c.in-Ok.ensures.same c.args.limit c.in-Err-read_vertices.end c.in-Err-read_vertices.ensures.read

pub returns-in-Err-end-clause-end : goal.returns-in-Err-end-clause-end
returns-in-Err-end-clause-end c =
    surplus c.args.bytes.now c.new-cursor.result c.new-cursor.ensures c.number.new.self c.in-Ok.number c.in-Ok.ensures.taken c.in-Ok.ensures.same c.read_vertices.new.cursor c.in-Ok-read_vertices.arcs c.in-Ok-read_vertices.ensures.read c.in-Err-end.fault c.in-Err-end.ensures.ends

pub returns-then-n-limit-clause-end : goal.returns-then-n-limit-clause-end
returns-then-n-limit-clause-end c =
    too_large c.args.bytes.now c.new-cursor.result c.new-cursor.ensures c.number.new.self c.in-Ok.number c.in-Ok.ensures.taken c.in-Ok.ensures.same c.read_vertices.new.cursor c.in-Ok-read_vertices.arcs c.in-Ok-read_vertices.ensures.read c.in-Ok-end.ensures.ends c.args.limit c.if-n-limit.true

pub returns-clause-file : goal.returns-clause-file
returns-clause-file c =
    subst (IsGraphFile c.args.bytes.now) (sym c.new.ensures)
    (is_graph c.args.bytes.now c.new-cursor.result c.new-cursor.ensures c.number.new.self c.in-Ok.number c.in-Ok.ensures.taken c.in-Ok.ensures.same c.read_vertices.new.cursor c.in-Ok-read_vertices.arcs c.in-Ok-read_vertices.ensures.read c.in-Ok-end.ensures.ends (c.in-Ok-read_vertices.ensures.sized c.if-n-limit.false))

pub returns-clause-limits : goal.returns-clause-limits
returns-clause-limits c =
    let size : vertex_count c.new.result ≡ c.in-Ok.number = ap vertex_count c.new.ensures ∙ vertex_count-in c.in-Ok.number c.in-Ok-read_vertices.arcs in
    omega arith

use Rattle.std.proofs.Common.{ℕ, List, ◌++◌, ap, ◌∙◌}
use Rattle.yew_lad.specs.Files.{vertex_numbers}
use Rattle.yew_make.specs.Graphs.{kept, successors_of}
use Rattle.yew_knap.specs.Rows.{row_line}
use Rattle.yew_make.proofs.Pairs.{vertex_lines-more}
use Rattle.yew_make.proofs.graph.push_vertices.Goals as goal

pub loop-u-preserved : goal.loop-u-preserved
loop-u-preserved c =
    c.in_ok-push_vertex.ensures
    ∙ ap (λ (t : List ℕ). t ++ row_line (vertex_numbers (successors_of (kept c.args.pairs.now) c.args.size c.loop-u.u))) c.loop-u.invariant
    ∙ vertex_lines-more c.args.out.now.items (kept c.args.pairs.now) c.args.size c.loop-u.u

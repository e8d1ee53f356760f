use Rattle.std.proofs.Common.{◌≡◌, ℕ, ◌*◌, ◌-◌, ◌/◌, Bool, List, ◌++◌, length, map, ap, ◌∙◌, arith}
use Rattle.std.proofs.lemmas.Result.{on_ok_weaker}
use Rattle.yew_lad.specs.Files.{vertex_numbers}
use Rattle.yew_knap.specs.Rows.{row_lines}
use Rattle.yew_make.specs.Draws.{word_from}
use Rattle.yew_make.specs.Graphs.{joins, kept, graph_of}
use Rattle.yew_make.proofs.Pairs.{pairs-many, graph-pushed}
use Rattle.yew_make.proofs.graph.push_graph.Goals as goal

pub push_vertices-requires-clause-pairs : goal.push_vertices-requires-clause-pairs
push_vertices-requires-clause-pairs c =
    let size = c.args.size in
    let less : c.saturating_sub.result ≡ size - 1 = omega arith in
    ap (λ (l : List Bool). length l) c.as_slice.ensures.value
    ∙ pairs-many size (size * c.saturating_sub.result / 2) (λ place. joins (word_from c.args.draws.now place)) c.in_ok-pairs.pairs.items (ap (λ (n : ℕ). size * n / 2) less) c.in_ok-pairs.ensures

pub returns : goal.returns
returns c =
    let size = c.args.size in
    let less : c.saturating_sub.result ≡ size - 1 = omega arith in
    on_ok_weaker c.push_vertices.result
    (λ e.
    graph-pushed c.args.draws.now size (size * c.saturating_sub.result / 2) c.in_ok-pairs.pairs.items c.args.out.now.items c.push_number.new.out.items c.push_line_end.new.out.items c.push_vertices.new.out.items
    (ap (λ (n : ℕ). size * n / 2) less)
    c.in_ok-pairs.ensures c.in_ok-push_number.ensures c.in_ok-push_line_end.ensures
    (e ∙ ap (λ (l : List Bool). c.push_line_end.new.out.items ++ row_lines (map vertex_numbers (graph_of (kept l) size))) c.as_slice.ensures.value))
    c.push_vertices.ensures

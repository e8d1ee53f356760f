use Rattle.std.proofs.Common.{◌≡◌, map, subst, sym, ap, ◌∙◌}
use Rattle.yew_kinds.specs.Kinds.{gap_of}
use Rattle.yew_laws.specs.SearchTree.{SearchTree, search_tree}
use Rattle.yew_walk.specs.LogViews.{LogView, log_view}
use Rattle.yew_walk.specs.PlainSearch.{searched_tree, HasPlainLog}
use Rattle.yew_app.specs.Asks.{table_of}
use Rattle.yew_crew.specs.CrewSearch.{solution_of, HasCrewLogs}
use Rattle.yew_app.specs.Texts.{first_node, HasTooManyItems}
use Rattle.yew_app.proofs.search.answer_of.Goals as goal

pub returns : goal.returns
returns g c =
    let m = g.J.SearchJob.meaning c.args.job.now in
    let x = c.args.problem.now in
    let solution = solution_of (search_tree g.J.Instance.Problem x) c.args.found.answer in
    let view : g.row.R.Denot → LogView = λ log. log_view (g.R.Recorder.told log) (g.R.Recorder.totals log) (g.R.Recorder.number log) in
    let logs = c.args.found.logs.items in
    let asked = c.args.asked in
    let tree = sym (g.met.J.SearchJob.tree_is c.args.job.now x) in
    record {
      solution = solution;
      lines_are = c.in_ok-lines.ensures.lines ∙ ap (m.lines x) c.in_ok-solution.ensures.node;
      right = c.in_ok-lines.ensures.right;
      logs_are = subst (λ (u : SearchTree _). HasCrewLogs (searched_tree u m.kind) (gap_of m.kind) (table_of asked.skeleton) asked.workers (map view logs) solution) tree c.requires.found.logs;
      first = λ finds. subst (λ (u : SearchTree _). solution ≡ first_node (searched_tree u m.kind) (gap_of m.kind)) tree (c.requires.found.first finds);
      in_preorder = λ sequential. subst (λ (u : SearchTree _). HasPlainLog (searched_tree u m.kind) (gap_of m.kind) view logs) tree (c.requires.found.in_preorder sequential);
      few = subst (λ (u : SearchTree _). ¬ HasTooManyItems (searched_tree u m.kind) asked.skeleton) tree c.requires.found.few;
    }

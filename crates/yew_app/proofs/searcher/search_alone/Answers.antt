use Rattle.std.proofs.Common.{sym, ap}
use Rattle.std.proofs.lemmas.Result.{IfErr-weaker}
use Rattle.std.specs.Prelude.{IsSome}
use Rattle.yew_kinds.specs.Kinds.{gap_of}
use Rattle.yew_laws.specs.Fold.{Fold}
use Rattle.yew_laws.specs.SearchTree.{search_tree}
use Rattle.yew_walk.specs.Kinds.{IsAnswer}
use Rattle.yew_walk.specs.LogViews.{LogView, log_view}
use Rattle.yew_walk.specs.PlainSearch.{searched_tree, HasPlainLog, IsPlainFault}
use Rattle.yew_app.specs.Asks.{table_of}
use Rattle.yew_crew.specs.CrewSearch.{solution_of}
use Rattle.yew_app.specs.Searches.{IsFound, IsSearchFault}
use Rattle.yew_app.proofs.FoundNodes.{both-ok}
use Rattle.yew_app.proofs.OneWorkers.{crew-answer, solution-first, crew-logs, crew-fault, crew-search_fault}
use Rattle.yew_app.proofs.OrderedSearches.{sequential-few}
use Rattle.yew_app.proofs.SearchedTrees.{searched-are_logs}
use Rattle.yew_app.proofs.searcher.search_alone.Goals as goal

pub returns-clause-found : goal.returns-clause-found
returns-clause-found g c =
    let t = search_tree g.P.Problem c.args.problem.now in
    let fold = Fold t (g.T.Tally.join c.args.tally.now) (g.T.Tally.none c.args.tally.now) (g.T.Tally.of c.args.tally.now) in
    let kind = c.args.kind in
    let u = searched_tree t kind in
    let asked = c.args.asked in
    let view : g.row.R.Denot → LogView = λ log. log_view (g.R.Recorder.told log) (g.R.Recorder.totals log) (g.R.Recorder.number log) in
    let done = c.requires.done in
    both-ok c.search_plain.result (λ found. IsAnswer t fold kind found.answer) (λ found. HasPlainLog u (gap_of kind) view found.logs.items) (IsFound t fold kind asked view)
    (λ found is has.
    let first = solution-first t (g.P.Problem.ranked c.args.problem.now) (g.P.Problem.bounded c.args.problem.now) c.requires.root fold kind found.answer is in
    record {
      answer = crew-answer t fold kind found.answer is;
      logs =
          crew-logs u (gap_of kind) view (table_of asked.skeleton) asked.workers (solution_of t found.answer) found.logs.items (sym (ap table_of done)) (sym (c.requires.askable.alone done)) (sym first)
          (searched-are_logs t (g.P.Problem.ranked c.args.problem.now) c.requires.root kind) has;
      first = λ finds. first;
      in_preorder = λ sequential. has;
      few = sequential-few u asked.skeleton done;
    })
    c.search_plain.ensures.answer c.search_plain.ensures.logs

pub returns-clause-fault : goal.returns-clause-fault
returns-clause-fault g c =
    let u = searched_tree (search_tree g.P.Problem c.args.problem.now) c.args.kind in
    let gap = gap_of c.args.kind in
    let asked = c.args.asked in
    let done = c.requires.done in
    let Tells : Type 0 = (log : g.row.R.Denot) × IsSome (g.R.Recorder.told log) in
    IfErr-weaker c.search_plain.result (IsPlainFault u gap Tells) (IsSearchFault u gap asked Tells)
    (λ fault refused.
    crew-search_fault u gap asked Tells fault (sequential-few u asked.skeleton done)
    (crew-fault u gap (table_of asked.skeleton) asked.workers Tells fault (sym (ap table_of done)) (sym (c.requires.askable.alone done)) refused))
    c.search_plain.ensures.fault

use Rattle.std.proofs.Common.{ℕ, subst}
use Rattle.std.proofs.lemmas.Result.{IfErr-weaker}
use Rattle.std.specs.Prelude.{IsSome}
use Rattle.yew_kinds.specs.Kinds.{gap_of}
use Rattle.yew_laws.specs.Fold.{Fold}
use Rattle.yew_laws.specs.SearchTree.{search_tree}
use Rattle.yew_ranked.specs.OrderedSearch.{IsOrderedFault}
use Rattle.yew_walk.specs.LogViews.{LogView, log_view}
use Rattle.yew_walk.specs.PlainSearch.{searched_tree}
use Rattle.yew_app.specs.Searches.{IsSearchFault}
use Rattle.yew_app.proofs.OrderedSearches.{exact-gap, ordered-found, ordered-fault, all-ok}
use Rattle.yew_app.proofs.crew.search_in_order.Goals as goal

pub returns-clause-found : goal.returns-clause-found
returns-clause-found g c =
    let t = search_tree g.P.Problem c.args.problem.now in
    let fold = Fold t (g.T.Tally.join c.args.tally.now) (g.T.Tally.none c.args.tally.now) (g.T.Tally.of c.args.tally.now) in
    let asked = c.args.asked in
    let view : g.row.R.Denot → LogView = λ log. log_view (g.R.Recorder.told log) (g.R.Recorder.totals log) (g.R.Recorder.number log) in
    all-ok c.search_ordered.result (λ found is has few. ordered-found t (g.P.Problem.ranked c.args.problem.now) (g.P.Problem.bounded c.args.problem.now) c.requires.root fold c.args.kind asked view c.args.depth c.requires.exact c.requires.in_order found is has few)
    c.search_ordered.ensures.answer c.search_ordered.ensures.logs c.search_ordered.ensures.few

pub returns-clause-fault : goal.returns-clause-fault
returns-clause-fault g c =
    let u = searched_tree (search_tree g.P.Problem c.args.problem.now) c.args.kind in
    let asked = c.args.asked in
    let Tells : Type 0 = (log : g.row.R.Denot) × IsSome (g.R.Recorder.told log) in
    IfErr-weaker c.search_ordered.result (IsOrderedFault u c.args.depth asked.workers Tells) (IsSearchFault u (gap_of c.args.kind) asked Tells)
    (λ fault refused. subst (λ (gap : ℕ). IsSearchFault u gap asked Tells fault) (exact-gap c.args.kind c.requires.exact) (ordered-fault u c.args.depth asked Tells fault c.requires.in_order refused)) c.search_ordered.ensures.fault

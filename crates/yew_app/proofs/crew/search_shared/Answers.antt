use Rattle.std.proofs.Common.{map, subst}
use Rattle.std.proofs.lemmas.Result.{IfErr-weaker}
use Rattle.std.specs.Prelude.{IsSome}
use Rattle.yew_kinds.specs.Kinds.{gap_of}
use Rattle.yew_laws.specs.Fold.{Fold}
use Rattle.yew_laws.specs.SearchTree.{search_tree}
use Rattle.yew_log.specs.Groups.{Skeleton}
use Rattle.yew_walk.specs.LogViews.{LogView, log_view}
use Rattle.yew_walk.specs.PlainSearch.{searched_tree}
use Rattle.yew_crew.specs.CrewSearch.{solution_of, IsCrewAnswer, HasCrewLogs, IsCrewFault}
use Rattle.yew_crew.specs.Stations.{skeleton_of}
use Rattle.yew_app.specs.Searches.{IsFound, IsSearchFault}
use Rattle.yew_app.proofs.FoundNodes.{both-ok}
use Rattle.yew_app.proofs.OneWorkers.{crew-search_fault}
use Rattle.yew_app.proofs.OrderedSearches.{shared-few}
use Rattle.yew_app.proofs.SearchTexts.{sequential-finds}
use Rattle.yew_app.proofs.crew.search_shared.Goals as goal

pub returns-clause-found : goal.returns-clause-found
returns-clause-found g c =
    let t = search_tree g.P.Problem c.args.problem.now in
    let fold = Fold t (g.T.Tally.join c.args.tally.now) (g.T.Tally.none c.args.tally.now) (g.T.Tally.of c.args.tally.now) in
    let kind = c.args.kind in
    let asked = c.args.asked in
    let shared = c.requires.shared in
    let view : g.row.R.Denot → LogView = λ log. log_view (g.R.Recorder.told log) (g.R.Recorder.totals log) (g.R.Recorder.number log) in
    both-ok c.search_crew.result (λ found. IsCrewAnswer t fold kind found.answer)
    (λ found. HasCrewLogs (searched_tree t kind) (gap_of kind) (skeleton_of c.args.coord) asked.workers (map view found.logs.items) (solution_of t found.answer))
    (IsFound t fold kind asked view)
    (λ found is has. record {
      answer = is;
      logs = subst (λ (s : Skeleton). HasCrewLogs (searched_tree t kind) (gap_of kind) s asked.workers (map view found.logs.items) (solution_of t found.answer)) shared.table has;
      first = λ finds. absurd (shared.any finds);
      in_preorder = λ sequential. absurd (shared.any (sequential-finds asked.skeleton sequential));
      few = shared-few (searched_tree t kind) asked.skeleton shared.any;
    })
    c.search_crew.ensures.answer c.search_crew.ensures.logs

pub returns-clause-fault : goal.returns-clause-fault
returns-clause-fault g c =
    let u = searched_tree (search_tree g.P.Problem c.args.problem.now) c.args.kind in
    let gap = gap_of c.args.kind in
    let asked = c.args.asked in
    let shared = c.requires.shared in
    let Tells : Type 0 = (log : g.row.R.Denot) × IsSome (g.R.Recorder.told log) in
    IfErr-weaker c.search_crew.result (IsCrewFault u gap (skeleton_of c.args.coord) asked.workers Tells) (IsSearchFault u gap asked Tells)
    (λ fault refused.
    crew-search_fault u gap asked Tells fault (shared-few u asked.skeleton shared.any) (subst (λ (s : Skeleton). IsCrewFault u gap s asked.workers Tells fault) shared.table refused))
    c.search_crew.ensures.fault

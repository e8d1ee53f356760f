use Rattle.std.proofs.Common.{Some, subst, sym}
use Rattle.std.specs.Prelude.{IsSome}
use Rattle.yew_kinds.specs.declared.kind.Kind.{Kind}
use Rattle.yew_kinds.specs.Kinds.{gap_of}
use Rattle.yew_laws.specs.SearchTree.{SearchTree, search_tree}
use Rattle.yew_log.specs.Logs.{FullLog}
use Rattle.yew_walk.specs.PlainSearch.{searched_tree}
use Rattle.yew_app.specs.Searches.{IsSearchFault}
use Rattle.yew_app.specs.Texts.{StopsSearch}
use Rattle.yew_app.proofs.SearchedTrees.{searched-stops}
use Rattle.yew_app.proofs.search.text_alone.Goals as goal

pub returns-then-asked-clause-fault : goal.returns-then-asked-clause-fault
returns-then-asked-clause-fault g c =
    let m = g.J.SearchJob.meaning c.args.job.now in
    let x = c.args.problem.now in
    let t = search_tree g.J.Instance.Problem x in
    let fault = c.in-Err.fault in
    let asked = c.args.asked in
    let Tells : Type 0 = (log : FullLog) × IsSome (Some log.notes) in
    subst (λ (u : SearchTree _). StopsSearch (searched_tree u m.kind) (gap_of m.kind) asked fault) (sym (g.met.J.SearchJob.tree_is c.args.job.now x))
    (searched-stops t (g.J.Instance.Problem.ranked x) c.requires.root m.kind asked Tells fault c.if-asked.true
    (subst (λ (k : Kind). IsSearchFault (searched_tree t k) (gap_of k) asked Tells fault) c.kind.ensures.kind c.in-Err.ensures.fault))

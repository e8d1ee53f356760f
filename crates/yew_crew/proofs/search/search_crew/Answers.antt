use Rattle.std.proofs.Common.{sym, subst, IfOk}
use Rattle.yew_laws.specs.Fold.{Fold}
use Rattle.yew_laws.specs.SearchTree.{search_tree}
use Rattle.yew_crew.specs.CrewSearch.{IsCrewAnswer}
use Rattle.yew_crew.proofs.search.search_crew.Goals as goal

pub returns-in-Best-clause-answer : goal.returns-in-Best-clause-answer
returns-in-Best-clause-answer g c =
    let t = search_tree g.P.Problem c.args.problem.now in
    let fold = Fold t (g.T.Tally.join c.args.tally.now) (g.T.Tally.none c.args.tally.now) (g.T.Tally.of c.args.tally.now) in
    subst (λ kind. IfOk c.best.result (λ found. IsCrewAnswer t fold kind found.answer)) (sym c.in-Best.is) (c.best.ensures.answer fold)

pub returns-in-Reach-clause-answer : goal.returns-in-Reach-clause-answer
returns-in-Reach-clause-answer g c =
    let t = search_tree g.P.Problem c.args.problem.now in
    let fold = Fold t (g.T.Tally.join c.args.tally.now) (g.T.Tally.none c.args.tally.now) (g.T.Tally.of c.args.tally.now) in
    subst (λ kind. IfOk c.reach.result (λ found. IsCrewAnswer t fold kind found.answer)) (sym c.in-Reach.is) (c.reach.ensures.answer fold)

pub returns-in-Near-clause-answer : goal.returns-in-Near-clause-answer
returns-in-Near-clause-answer g c =
    let t = search_tree g.P.Problem c.args.problem.now in
    let fold = Fold t (g.T.Tally.join c.args.tally.now) (g.T.Tally.none c.args.tally.now) (g.T.Tally.of c.args.tally.now) in
    subst (λ kind. IfOk c.near.result (λ found. IsCrewAnswer t fold kind found.answer)) (sym c.in-Near.is) (c.near.ensures.answer fold)

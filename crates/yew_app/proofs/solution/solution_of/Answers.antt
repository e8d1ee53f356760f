use Rattle.yew_laws.specs.SearchTree.{search_tree}
use Rattle.std.proofs.Common.{subst}
use Rattle.yew_crew.specs.CrewSearch.{IsCrewAnswer}
use Rattle.yew_app.proofs.FoundNodes.{solution-best, solution-reach}
use Rattle.yew_app.proofs.solution.solution_of.Goals as goal

pub returns-in_ok-node-in-Best-clause-right : goal.returns-in_ok-node-in-Best-clause-right
returns-in_ok-node-in-Best-clause-right g c = λ fold kind answer.
    let t = search_tree g.P.Problem c.args.problem.now in
    solution-best t (g.P.Problem.ranked c.args.problem.now) c.requires.root fold kind c.in-Best.worth c.in-Best.path c.in_ok-node-in-Best.node c.in_ok-node-in-Best.ensures
    (subst (IsCrewAnswer t fold kind) c.in-Best.is answer)

pub returns-in_ok-node-in-Reach-clause-right : goal.returns-in_ok-node-in-Reach-clause-right
returns-in_ok-node-in-Reach-clause-right g c = λ fold kind answer.
    let t = search_tree g.P.Problem c.args.problem.now in
    solution-reach t (g.P.Problem.ranked c.args.problem.now) c.requires.root fold kind c.in-Reach.path c.in_ok-node-in-Reach.node c.in_ok-node-in-Reach.ensures
    (subst (IsCrewAnswer t fold kind) c.in-Reach.is answer)

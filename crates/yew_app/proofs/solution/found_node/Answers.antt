use Rattle.std.proofs.Common.{◌≡◌, Option, sym, subst}
use Rattle.std.specs.Prelude.{IfOk, option_and_then}
use Rattle.yew_laws.specs.PathValue.{PathValue}
use Rattle.yew_laws.specs.SearchTree.{search_tree, at_path}
use Rattle.yew_app.proofs.FoundNodes.{rebuild-at_path}
use Rattle.yew_app.proofs.solution.found_node.Goals as goal

pub returns-in-Some : goal.returns-in-Some
returns-in-Some g c =
    let t = search_tree g.P.Problem c.args.problem.now in
    subst (λ (path : Option PathValue). IfOk c.rebuild.result (λ found. found ≡ option_and_then (λ (p : PathValue). at_path t p.numbers) path)) (sym c.in-Some.is)
    (rebuild-at_path t (g.P.Problem.ranked c.args.problem.now) c.requires.root c.in-Some.path.numbers c.rebuild.result c.rebuild.ensures.some c.rebuild.ensures.none)

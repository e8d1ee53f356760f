use Rattle.std.proofs.Common.{Option, Some, None, subst}
use Rattle.yew_crew.specs.CrewSearch.{IsGreatest, IsCrewAnswer}
use Rattle.yew_kinds.specs.declared.kind.Kind.TheVariants as kinds
use Rattle.yew_laws.specs.PathValue.{PathValue}
use Rattle.yew_example.specs.NodeLaws.{empty_sound}
use Rattle.yew_example.specs.Nodes.{colouring_tree}
use Rattle.yew_example.proofs.ColouringTree.{least-none, least-rebuilt}
use Rattle.yew_example.proofs.search.least_colouring.Goals as goal

pub rebuild-requires-after_bounds : goal.rebuild-requires-after_bounds
rebuild-requires-after_bounds g c κs = empty_sound c.args.problem.now.graph c.args.problem.now.number

pub returns-in_ok-rebuild-in-Best-default-Some-clause-answer : goal.returns-in_ok-rebuild-in-Best-default-Some-clause-answer
returns-in_ok-rebuild-in-Best-default-Some-clause-answer g c =
    let graph = c.args.problem.now.graph in
    let number = c.args.problem.now.number in
    let t = colouring_tree graph number in
    let arm = c.in-Best-default-Some in
    let built = c.in_ok-rebuild-in-Best-default-Some in
    let best : IsGreatest t arm.worth (Some arm.path) =
    subst (λ (path : Option PathValue). IsGreatest t arm.worth path) arm.path-is (subst (IsCrewAnswer t tt kinds.Best) arm.is c.in_ok-path.ensures.answer) in
    least-rebuilt graph number arm.worth arm.path built.field-0 best built.ensures.some built.ensures.none

pub returns-in-Best-default-None-clause-answer : goal.returns-in-Best-default-None-clause-answer
returns-in-Best-default-None-clause-answer g c =
    let graph = c.args.problem.now.graph in
    let number = c.args.problem.now.number in
    let t = colouring_tree graph number in
    let arm = c.in-Best-default-None in
    let best : IsGreatest t arm.worth None =
    subst (λ (path : Option PathValue). IsGreatest t arm.worth path) arm.path-is (subst (IsCrewAnswer t tt kinds.Best) arm.is c.in_ok-path.ensures.answer) in
    least-none graph number arm.worth best

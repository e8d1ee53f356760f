use Rattle.std.proofs.Common.{sym, subst, ◌∙◌}
use Rattle.yew_crew.specs.CrewSearch.{IsMeeting, IsCrewAnswer}
use Rattle.yew_kinds.specs.declared.kind.Kind.TheVariants as kinds
use Rattle.yew_example.specs.Nodes.{colouring_tree}
use Rattle.yew_example.proofs.ColouringTree.{reach-colouring}
use Rattle.yew_example.proofs.search.can_colour.Goals as goal

pub returns-clause-answer : goal.returns-clause-answer
returns-clause-answer g c =
    let graph = c.args.problem.now.graph in
    let number = c.args.problem.now.number in
    let t = colouring_tree graph number in
    let met : IsMeeting t 1 c.in-Reach.path = subst (IsCrewAnswer t tt (kinds.Reach 1)) c.in-Reach.is c.in_ok-path.ensures.answer in
    let reach = reach-colouring graph number in (
      λ yes. reach.0 (met.exists.0 (sym c.is_some.ensures ∙ yes)),
      λ has. c.is_some.ensures ∙ met.exists.1 (reach.1 has),
    )

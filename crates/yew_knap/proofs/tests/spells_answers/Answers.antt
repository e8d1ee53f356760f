use Rattle.std.proofs.Common.{Bor, IfSome, subst}
use Rattle.std.proofs.lemmas.Option.{same_Some}
use Rattle.yew_knap.specs.declared.nodes.KnapNode.{KnapNode}
use Rattle.yew_knap.specs.Nodes.{IsNode}
use Rattle.yew_knap.proofs.tests.spells_answers.Goals as goal

pub reach_text-requires-in-Some-clause-node : goal.reach_text-requires-in-Some-clause-node
reach_text-requires-in-Some-clause-node g c = λ x e.
    let problem = c.in_ok-problem.problem in
    subst (λ (n : Bor KnapNode). IsNode problem n.now) (same_Some _ x e) (subst (λ found. IfSome found (IsNode problem)) c.in-Some.is c.in_ok-node.ensures)

use Rattle.std.proofs.Common.{sym, subst}
use Rattle.std.specs.List.{AllByRecursion}
use Rattle.yew_flow.specs.NodeLaws.{orders-ranked}
use Rattle.yew_flow.specs.Nodes.{IsNode}
use Rattle.yew_flow.proofs.tests.gives_the_children_in_order.Goals as goal

pub next_job-requires-clause-kids : goal.next_job-requires-clause-kids
next_job-requires-clause-kids g c =
    let problem = c.in_ok-problem.problem in
    subst (AllByRecursion (IsNode problem)) (sym c.in_ok-kids.ensures)
    ((orders-ranked problem).stays_sound c.in_ok-root.root (subst (IsNode problem) (sym c.in_ok-root.ensures) c.in_ok-problem.ensures.root))

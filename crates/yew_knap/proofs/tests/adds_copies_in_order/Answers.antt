use Rattle.std.proofs.Common.{sym, subst}
use Rattle.std.specs.List.{AllByRecursion}
use Rattle.yew_knap.specs.NodeLaws.{knapsack-ranked}
use Rattle.yew_knap.specs.Nodes.{IsNode}
use Rattle.yew_knap.proofs.tests.adds_copies_in_order.Goals as goal

pub next_has-requires-clause-kids : goal.next_has-requires-clause-kids
next_has-requires-clause-kids g c =
    let problem = c.in_ok-problem.problem in
    subst (AllByRecursion (IsNode problem)) (sym c.in_ok-kids.ensures)
    ((knapsack-ranked problem).stays_sound c.in_ok-root.root (subst (IsNode problem) (sym c.in_ok-root.ensures) c.in_ok-problem.ensures.root))

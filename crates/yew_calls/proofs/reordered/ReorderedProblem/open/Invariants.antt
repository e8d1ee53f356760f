use Rattle.std.proofs.Common.{◌≡◌, ◌++◌, length}
use Rattle.std.specs.List.{AllByRecursion}
use Rattle.yew_calls.specs.Keyed.{HasKeys, nodes_of}
use Rattle.yew_calls.proofs.reordered.ReorderedProblem.open.Given as goal

-- the nodes that are kept and those that are still to come are the children, and each key that is kept is that of its node
abbrev pub invariant-loop-keyed : goal.invariant-loop-keyed
invariant-loop-keyed g l =
    let inner = l.fn.self.inner.now in
    (nodes_of l.keyed.items ++ g.P.Problem.remaining inner l.kids ≡ g.P.Problem.children inner l.fn.node)
    × AllByRecursion (g.P.Problem.sound inner) (g.P.Problem.remaining inner l.kids)
    × HasKeys (g.M.KeyShape.key inner) l.keyed.items

abbrev pub decreases-loop-keyed : goal.decreases-loop-keyed
decreases-loop-keyed g l = length (g.P.Problem.remaining l.fn.self.inner.now l.kids)

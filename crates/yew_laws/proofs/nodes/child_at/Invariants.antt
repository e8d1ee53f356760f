use Rattle.std.proofs.Common.{◌≡◌, drop}
use Rattle.yew_laws.proofs.nodes.child_at.Given as goal

-- the first k children are taken off
abbrev pub invariant-loop-k : goal.invariant-loop-k
invariant-loop-k g l =
    let meaning = g.P.Problem in
    meaning.remaining l.problem l.kids ≡ drop l._k (meaning.children l.problem l.fn.node)

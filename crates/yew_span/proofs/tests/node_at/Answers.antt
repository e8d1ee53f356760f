use Rattle.std.proofs.Common.{List, ℕ, Option, Some, None, Result, Ok, Err, IfOk, IfSome, Contains, subst, sym}
use Rattle.yew_laws.specs.declared.memory.Memory.{Memory}
use Rattle.yew_laws.specs.SearchTree.{preorder}
use Rattle.yew_tsp.specs.declared.nodes.TourNode.{TourNode}
use Rattle.yew_tsp.specs.Answers.{tours_tree}
use Rattle.yew_tsp.specs.Instance.{Instance, IsWithinLimits}
use Rattle.yew_tsp.specs.Nodes.{IsNode}
use Rattle.yew_tsp.proofs.TreeIs.{member-sound}
use Rattle.yew_span.proofs.tests.node_at.Goals as goal

found-sound : (instance : Instance) → IsWithinLimits instance → (path : List ℕ) (r : Result (Option TourNode) Memory) → IfOk r (λ found. IfSome found (λ node. Contains (preorder (tours_tree instance)) (record { path = path; node = node }))) → IfOk r (λ found. IfSome found (IsNode instance))
found-sound instance limits path (Ok (Some node)) h = member-sound instance limits (record { path = path; node = node }) h
found-sound instance limits path (Ok None) h = tt
found-sound instance limits path (Err e) h = tt

pub returns : goal.returns
returns c =
    subst (λ i. IfOk c.rebuild.result (λ found. IfSome found (IsNode i))) c.new-spanned.ensures.inner
    (found-sound c.new-spanned.result.inner.now (subst IsWithinLimits (sym c.new-spanned.ensures.inner) c.requires.limits) c.loop-number.path.numbers c.rebuild.result c.rebuild.ensures.some)

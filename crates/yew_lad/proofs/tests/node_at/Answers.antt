use Rattle.std.proofs.Common.{List, ℕ, Option, Some, None, Result, Ok, Err, IfOk, IfSome, Contains}
use Rattle.yew_laws.specs.declared.memory.Memory.{Memory}
use Rattle.yew_laws.specs.SearchTree.{preorder}
use Rattle.yew_lad.specs.Digraphs.{GraphPair, IsWithinLimits}
use Rattle.yew_lad.specs.Nodes.{maps_tree, IsNode}
use Rattle.yew_lad.proofs.MapTree.{member-sound}
use Rattle.yew_lad.proofs.tests.node_at.Goals as goal

found-sound : (pair : GraphPair) → IsWithinLimits pair → (path : List ℕ) (r : Result (Option (List ℕ)) Memory) → IfOk r (λ found. IfSome found (λ node. Contains (preorder (maps_tree pair)) (record { path = path; node = node }))) → IfOk r (λ found. IfSome found (IsNode pair))
found-sound pair limits path (Ok (Some node)) h = member-sound pair limits (record { path = path; node = node }) h
found-sound pair limits path (Ok None) h = tt
found-sound pair limits path (Err e) h = tt

pub returns : goal.returns
returns c = found-sound c.args.problem.now c.requires.limits c.loop-number.path.numbers c.rebuild.result c.rebuild.ensures.some

use Rattle.std.proofs.Common.{◌≡◌, length, take}
use Rattle.yew_lad.specs.NodeWords.{AreUnused}
use Rattle.yew_lad.proofs.nodes.MapNode.take_from.Given as goal

abbrev pub invariant-loop-place : goal.invariant-loop-place
invariant-loop-place l = (length l.words ≡ 16) × AreUnused (take l.place l.self-inside.images) l.words

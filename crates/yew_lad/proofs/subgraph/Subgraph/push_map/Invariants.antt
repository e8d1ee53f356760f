use Rattle.std.proofs.Common.{◌≡◌, ◌++◌, map, slice_index}
use Rattle.std.specs.List.{flat_map, range_with_len}
use Rattle.yew_lines.specs.Spelling.{spaced}
use Rattle.yew_lad.specs.Nodes.{place_of}
use Rattle.yew_lad.proofs.subgraph.Subgraph.push_map.Given as goal

abbrev pub invariant-loop-v : goal.invariant-loop-v
invariant-loop-v l = l.out.items ≡ l.initial.out.items ++ flat_map spaced (map (λ v. slice_index l.node (place_of l.self v)) (range_with_len 0 l.v))

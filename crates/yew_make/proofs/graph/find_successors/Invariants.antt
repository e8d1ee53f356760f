use Rattle.std.proofs.Common.{◌≡◌, ◌≤◌, take}
use Rattle.std.specs.Prelude.{filter}
use Rattle.std.specs.List.{range_with_len}
use Rattle.yew_make.specs.Graphs.{kept, are_joined}
use Rattle.yew_make.proofs.graph.find_successors.Given as goal

-- the successors among the first vertices are found
abbrev pub invariant-loop-v : goal.invariant-loop-v
invariant-loop-v l = record {
  found : take l.count l.found ≡ filter (are_joined (kept l.pairs) l.size l.u) (range_with_len 0 l.v);
  few : l.count ≤ l.v;
}

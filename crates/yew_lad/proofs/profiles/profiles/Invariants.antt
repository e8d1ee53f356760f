use Rattle.std.proofs.Common.{◌≡◌, map}
use Rattle.std.specs.List.{range_with_len}
use Rattle.yew_lad.specs.SearchedOrder.{profile_of}
use Rattle.yew_lad.proofs.profiles.profiles.Given as goal

abbrev pub invariant-loop-v : goal.invariant-loop-v
invariant-loop-v l = l.profiles.items ≡ map (profile_of l.graph) (range_with_len 0 l.v)

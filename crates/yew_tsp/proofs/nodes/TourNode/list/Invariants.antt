use Rattle.std.proofs.Common.{◌≡◌, take, length}
use Rattle.yew_tsp.proofs.nodes.TourNode.list.Given as goal

abbrev pub invariant-loop-place : goal.invariant-loop-place
invariant-loop-place l = record {
  long : length l.cities ≡ 64;
  front : take l.place l.cities ≡ take l.place l.self.cities;
}

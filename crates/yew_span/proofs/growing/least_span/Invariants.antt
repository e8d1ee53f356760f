use Rattle.std.proofs.Common.{◌≡◌, ◌+◌, ◌≤◌, length, take, drop, map}
use Rattle.yew_span.specs.Growth.{beside, grown, span}
use Rattle.yew_span.specs.Outsides.{AreAllowed}
use Rattle.yew_span.proofs.growing.least_span.Given as goal

abbrev pub invariant-loop-place : goal.invariant-loop-place
invariant-loop-place l = record {
  long : length l.others ≡ 64;
  front : take l.place l.others ≡ map (beside l.tours l.start) (take l.place (drop 1 l.cities));
}

abbrev pub invariant-loop-count : goal.invariant-loop-count
invariant-loop-count l = record {
  long : length l.others ≡ 64;
  few : l.count ≤ 60;
  allowed : AreAllowed l.tours (take l.count l.others);
  sum : l.total + grown l.tours l.count (take l.count l.others) ≡ span l.tours l.cities;
}

abbrev pub decreases-loop-count : goal.decreases-loop-count
decreases-loop-count l = l.count

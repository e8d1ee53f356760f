use Rattle.std.proofs.Common.{◌≡◌, ◌+◌, ◌-◌, ◌≤◌, ◌++◌, length, take}
use Rattle.yew_span.specs.Bounds.{ends}
use Rattle.yew_span.specs.Places.{last_of, left_out}
use Rattle.yew_span.proofs.spanned.put_rest.Given as goal

abbrev pub invariant-loop-city : goal.invariant-loop-city
invariant-loop-city l = record {
  long : length l.rest ≡ 64;
  few : l.count ≤ l.city + 1;
  front : take l.count l.rest ≡ ends (last_of l.listed) ++ left_out (l.city - 1) l.listed;
}

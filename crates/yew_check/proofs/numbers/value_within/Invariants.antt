-- What is left of the digits, behind the value so far, has the value of all.
use Rattle.std.proofs.Common.{◌≡◌, ◌≤◌, true, drop}
use Rattle.std.specs.Str.Parse.{digits_value_after}
use Rattle.yew_text.specs.Numbers.{is_digits, value_of, greatest}
use Rattle.yew_check.proofs.numbers.value_within.Given as goal

abbrev pub invariant-loop-b : goal.invariant-loop-b
invariant-loop-b l = record {
  kept : digits_value_after 10 l.value (drop l.b-index l.text) ≡ value_of l.text;
  digits : is_digits (drop l.b-index l.text) ≡ true;
  fits : l.value ≤ greatest;
}

use Rattle.std.proofs.Common.{◌≡◌, map, take}
use Rattle.std.specs.Prelude.{decimal}
use Rattle.yew_check.specs.Entries.{IsPathWithin}
use Rattle.yew_check.proofs.entries.steps_in.Given as goal

-- the parts so far are the numbers of the path
abbrev pub invariant-loop-step : goal.invariant-loop-step
invariant-loop-step l = record {
  numbers : map (λ part. part.now) (take l.step-index l.step-items) ≡ map decimal l.path.numbers;
  within : IsPathWithin l.path.numbers;
}

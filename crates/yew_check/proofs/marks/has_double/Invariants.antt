use Rattle.std.proofs.Common.{◌≢◌, ◌+◌, ◌<◌, ℕ, [], get_or}
use Rattle.yew_check.specs.Marks.{all_seen, mark_paths}
use Rattle.yew_check.proofs.marks.has_double.Given as goal

-- no path so far is that of the one in front of it
abbrev pub invariant-loop-k : goal.invariant-loop-k
invariant-loop-k l = (j : ℕ) → j + 1 < l.k → get_or (mark_paths (all_seen l.marks)) j [] ≢ get_or (mark_paths (all_seen l.marks)) (j + 1) []

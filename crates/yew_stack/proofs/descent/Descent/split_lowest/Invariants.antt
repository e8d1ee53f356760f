use Rattle.std.proofs.Common.{◌≡◌, ◌+◌, ◌<◌, ◌^◌, length, take}
use Rattle.yew_stack.specs.Descents.{levels_along}
use Rattle.yew_stack.specs.Levels.{levels, AreSpent}
use Rattle.yew_stack.proofs.descent.Descent.split_lowest.Given as goal

-- the levels so far have nothing to come, nothing was moved, and the descent stands where it stood
abbrev pub invariant-loop-place : goal.invariant-loop-place
invariant-loop-place g l =
    let remaining = g.P.Problem.remaining l.problem in
    let inside = l.self-inside in
    record {
      within : length inside.path.numbers ≡ inside.first + length inside.rungs.items;
      short : length inside.path.numbers < 2 ^ 64;
      same : levels remaining (levels_along inside.path.numbers inside.first inside.rungs.items) ≡ levels remaining l.fn.self.levels;
      spent : AreSpent (take l.place (levels remaining l.fn.self.levels));
      kept : l.into.items ≡ l.fn.into.items;
      stays : (inside.path.numbers ≡ l.fn.self.path) × (inside.first ≡ l.fn.self.first);
    }

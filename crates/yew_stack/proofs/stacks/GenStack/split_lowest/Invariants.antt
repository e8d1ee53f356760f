use Rattle.std.proofs.Common.{◌≡◌, take}
use Rattle.yew_stack.specs.Levels.{levels, AreSpent}
use Rattle.yew_stack.proofs.stacks.GenStack.split_lowest.Given as goal

-- the levels so far have nothing to come, and nothing was moved
abbrev pub invariant-loop-place : goal.invariant-loop-place
invariant-loop-place g l =
    let remaining = g.P.Problem.remaining l.problem in
    record {
      same : levels remaining l.self-inside.levels.items ≡ levels remaining l.fn.self;
      spent : AreSpent (take l.place (levels remaining l.fn.self));
      kept : l.into.items ≡ l.fn.into.items;
    }

use Rattle.std.proofs.Common.{length, take}
use Rattle.std.specs.List.{AllByRecursion}
use Rattle.yew_stack.specs.Descents.{level_at}
use Rattle.yew_stack.specs.Levels.{level_of, IsNumbered}
use Rattle.yew_stack.proofs.Moving.{MovesSome}
use Rattle.yew_stack.proofs.descent.Rung.split.Given as goal

-- some nodes were moved so far
abbrev pub invariant-others : goal.invariant-others
invariant-others g l =
    let remaining = g.P.Problem.remaining l.problem in
    record {
      moves : MovesSome (level_of remaining (level_at (take l.depth l.path.numbers) l.fn.self)) l.fn.into.items l.into.items (level_of remaining (level_at (take l.depth l.path.numbers) l.self));
      sound : AllByRecursion (g.P.Problem.sound l.problem) (remaining l.self.kids);
      numbered : IsNumbered (level_of remaining (level_at (take l.depth l.path.numbers) l.self));
    }

-- the children that are still to come
abbrev pub decreases-others : goal.decreases-others
decreases-others g l = length (g.P.Problem.remaining l.problem l.self.kids)

-- What contracts see of a descent: the levels of nodes each of which is a child of the one before, along one path.
use Rattle.std.specs.Prelude.{ℕ, ◌+◌, List, [], ◌∷◌, length, take}
use Rattle.yew_stack.specs.Levels.{LevelValue}
use Rattle.yew_stack.specs.declared.descent.Step.{Step}
use Rattle.yew_stack.specs.declared.descent.Step.TheVariants as steps
use Rattle.yew_stack.specs.declared.stacks.Turn.{Turn}
use Rattle.yew_stack.specs.declared.stacks.Turn.TheVariants as turns

-- a level without its path: how many children of its node were given, and the generator of the others
pub record RungValue (K : Type 0) : Type 0 where
  pub given : ℕ
  pub kids : K

-- the level of the node at a path
abbrev pub level_at : {K : Type 0} → List ℕ → RungValue K → LevelValue K
level_at path rung = record { parent = path; given = rung.given; kids = rung.kids }

-- the levels of the nodes at the first `depth` steps of a path, at one step more, and so on
abbrev pub levels_along : {K : Type 0} → List ℕ → ℕ → List (RungValue K) → List (LevelValue K)
levels_along path depth [] = []
levels_along path depth (rung ∷ upper) = level_at (take depth path) rung ∷ levels_along path (depth + 1) upper

-- the path of the node that was given or ended last, or one step more where a level was opened since; the depth of the
-- lowest level's node; and the levels
pub record DescentValue (K : Type 0) : Type 0 where
  pub path : List ℕ
  pub first : ℕ
  pub levels : List (LevelValue K)

-- a step as a turn of the stack of these levels, where the path is this
abbrev pub turn_of : {S N K : Type 0} → List ℕ → Step N → Turn S N K
turn_of path (steps.Node node) = turns.Node (record { path = record { numbers = path; space = length path }; node = node })
turn_of path steps.Ended = turns.Ended (record { numbers = path; space = length path })
turn_of path steps.Empty = turns.Empty

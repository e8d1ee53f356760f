-- What a split moves: the next nodes of the lowest level that has any, as tasks.
use Rattle.std.specs.Prelude.{◌≡◌, ℕ, ◌+◌, ◌<◌, ◌⊎◌, List, [], ◌∷◌, ◌++◌, map, length, drop}
use Rattle.yew_laws.specs.SearchTree.{numbered}
use Rattle.yew_laws.specs.declared.problem.Task.{Task}
use Rattle.yew_stack.specs.Levels.{LevelView, Gives, AreSpent}
use Rattle.yew_stack.specs.declared.stacks.Chunk.{Chunk}
use Rattle.yew_stack.specs.declared.stacks.Chunk.TheVariants.{One, All}

abbrev pub nodes_of : {N : Type 0} → List (Task N) → List N
nodes_of tasks = map (λ task. task.node) tasks

abbrev pub paths_of : {N : Type 0} → List (Task N) → List (List ℕ)
paths_of tasks = map (λ task. task.path.numbers) tasks

-- the tasks at the end of a list that another list, which is its front, has not
abbrev pub appended : {N : Type 0} → List (Task N) → List (Task N) → List (Task N)
appended before after = drop (length before) after

-- these tasks are the next nodes of a level, in order, with their paths, and the level lacks exactly these
pub record Moves {N : Type 0} (old : LevelView N) (moved : List (Task N)) (new : LevelView N) : Type 0 where
  pub remaining_is : old.remaining ≡ nodes_of moved ++ new.remaining
  pub paths_are : paths_of moved ≡ numbered old.parent old.given (nodes_of moved)
  pub given_is : new.given ≡ old.given + length moved
  pub parent_is : new.parent ≡ old.parent

-- the next node of a level goes to the end of a list of tasks
pub record GivesTo {N : Type 0} (old : LevelView N) (before after : List (Task N)) (new : LevelView N) : Type 0 where
  pub task : Task N
  pub after_is : after ≡ before ++ task ∷ []
  pub gives : Gives old task.path.numbers task.node new

-- the next nodes of a level, none or more of them, go to the end of a list of tasks
pub record MovesTo {N : Type 0} (old : LevelView N) (before after : List (Task N)) (new : LevelView N) : Type 0 where
  pub moved : List (Task N)
  pub after_is : after ≡ before ++ moved
  pub moves : Moves old moved new

-- the next nodes of one level go to the end of a list of tasks; the levels below it have nothing to come, and all else stays
pub record MovesLowest {N : Type 0} (old : List (LevelView N)) (before after : List (Task N)) (new : List (LevelView N)) : Type 0 where
  pub lower : List (LevelView N)
  pub level : LevelView N
  pub rest : LevelView N
  pub upper : List (LevelView N)
  pub old_is : old ≡ lower ++ level ∷ upper
  pub new_is : new ≡ lower ++ rest ∷ upper
  pub spent : AreSpent lower
  pub moves : MovesTo level before after rest

-- so many nodes, after which a level is this, are a chunk of it: one node, or all that it had, which are some
abbrev pub IsChunk : {N : Type 0} → Chunk → ℕ → LevelView N → Type 0
IsChunk One count rest = count ≡ 1
IsChunk All count rest = (0 < count) × (rest.remaining ≡ [])

-- a chunk of the lowest level that has nodes to come is moved, or, where no level has any, nothing
abbrev pub Splits : {N : Type 0} → Chunk → List (LevelView N) → List (Task N) → List (Task N) → List (LevelView N) → Type 0
Splits chunk old before after new =
    (AreSpent old × (after ≡ before) × (new ≡ old)) ⊎ ((m : MovesLowest old before after new) × IsChunk chunk (length m.moves.moved) m.rest)

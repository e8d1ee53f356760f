-- What one turn of a stack gives, by the levels before it and after it.
use Rattle.std.specs.Prelude.{◌≡◌, ℕ, List, [], ◌∷◌, ◌++◌}
use Rattle.yew_laws.specs.declared.problem.Problem.{Ghosts}
use Rattle.yew_laws.specs.SearchTree.{IsTask}
use Rattle.yew_laws.specs.Tree.{Member}
use Rattle.yew_stack.specs.Levels.{LevelView, Gives}
use Rattle.yew_stack.specs.ToCome.{task_members}
use Rattle.yew_stack.specs.declared.stacks.Turn.{Turn}
use Rattle.yew_stack.specs.declared.stacks.Turn.TheVariants.{Node, Ended, Empty}

-- the top level gives its next node, and the levels below it stay
pub record TopGives {N : Type 0} (old : List (LevelView N)) (path : List ℕ) (node : N) (new : List (LevelView N)) : Type 0 where
  pub lower : List (LevelView N)
  pub top : LevelView N
  pub rest : LevelView N
  pub old_is : old ≡ lower ++ top ∷ []
  pub new_is : new ≡ lower ++ rest ∷ []
  pub gives : Gives top path node rest

-- the top level has nothing to come: it is taken off, and its node's path is handed back
pub record TopEnds {N : Type 0} (old : List (LevelView N)) (path : List ℕ) (new : List (LevelView N)) : Type 0 where
  pub top : LevelView N
  pub old_is : old ≡ new ++ top ∷ []
  pub spent : top.remaining ≡ []
  pub parent_is : top.parent ≡ path

-- a node, the end of the top level, or, where there is no level, nothing
abbrev pub IsTurn : {S N K : Type 0} → List (LevelView N) → Turn S N K → List (LevelView N) → Type 0
IsTurn old (Node task) new = TopGives old task.path.numbers task.node new
IsTurn old (Ended path) new = TopEnds old path.numbers new
IsTurn old Empty new = (old ≡ []) × (new ≡ [])

-- the members of the problem's tree at and below the node that a turn gives
abbrev pub turn_members : {S N K : Type 0} → Ghosts S N K → S → Turn S N K → List (Member N)
turn_members meaning problem (Node task) = task_members meaning problem task
turn_members meaning problem (Ended path) = []
turn_members meaning problem Empty = []

-- a node that a turn gives is a task of the problem
abbrev pub GivesTask : {S N K : Type 0} → Ghosts S N K → S → Turn S N K → Type 0
GivesTask meaning problem (Node task) = IsTask meaning problem task.path.numbers task.node
GivesTask meaning problem (Ended path) = Unit {0}
GivesTask meaning problem Empty = Unit {0}

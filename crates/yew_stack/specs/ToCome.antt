-- What the levels of a stack have still to come, in preorder, and how far a search is from its end.
use Rattle.std.specs.Prelude.{◌≡◌, ℕ, ◌+◌, ◌*◌, ◌≤◌, List, [], ◌∷◌, ◌++◌, length, drop, Some}
use Rattle.std.specs.List.{AllByRecursion}
use Rattle.yew_laws.specs.Tree.{Member, forest, prefixed, node_at, tree}
use Rattle.yew_laws.specs.declared.problem.Problem.{Ghosts}
use Rattle.yew_laws.specs.declared.problem.Task.{Task}
use Rattle.yew_stack.specs.Levels.{LevelValue, LevelView, levels}

-- of one level: the trees of its nodes to come, with the path of its node in front
abbrev pub level_to_come : {N : Type 0} → (N → List (Member N)) → LevelView N → List (Member N)
level_to_come tree_of level = prefixed level.parent (forest tree_of level.given level.remaining)

-- of all levels, those of the top level first
abbrev pub levels_to_come : {N : Type 0} → (N → List (Member N)) → List (LevelView N) → List (Member N)
levels_to_come tree_of [] = []
levels_to_come tree_of (level ∷ upper) = levels_to_come tree_of upper ++ level_to_come tree_of level

-- at most so many turns are left: two for each node to come, and one for each level
abbrev pub turns_of : {N : Type 0} → (N → List (Member N)) → List (LevelView N) → ℕ
turns_of tree_of ls = length ls + 2 * length (levels_to_come tree_of ls)

-- the level of a sound node of the tree: its nodes to come are the last children of that node
pub record IsOpen {N : Type 0} (sound : N → Type 0) (children : N → List N) (root : N) (level : LevelView N) : Type 0 where
  pub parent_node : N
  pub found : node_at children root level.parent ≡ Some parent_node
  pub is_sound : sound parent_node
  pub within : level.given ≤ length (children parent_node)
  pub remaining_is : level.remaining ≡ drop level.given (children parent_node)

module _ {S N K : Type 0} (meaning : Ghosts S N K) (problem : S) where
  -- the tree of a node of the problem
  abbrev pub node_tree : N → List (Member N)
  node_tree node = tree (meaning.children problem) (meaning.rank problem) node

  -- the members of the problem's tree at and below a task
  abbrev pub task_members : Task N → List (Member N)
  task_members task = prefixed task.path.numbers (node_tree task.node)

  -- the members that a stack has still to come, in preorder
  abbrev pub to_come : List (LevelValue K) → List (Member N)
  to_come stack = levels_to_come node_tree (levels (meaning.remaining problem) stack)

  -- at most so many turns are left of a stack
  abbrev pub turns_left : List (LevelValue K) → ℕ
  turns_left stack = turns_of node_tree (levels (meaning.remaining problem) stack)

  -- each level of a stack is that of a sound node of the problem's tree
  abbrev pub AllOpen : List (LevelValue K) → Type 0
  AllOpen stack = AllByRecursion (IsOpen (meaning.sound problem) (meaning.children problem) (meaning.root problem)) (levels (meaning.remaining problem) stack)

-- The tasks of an ordered search, each with its number among the items.
use Rattle.std.specs.Prelude.{◌≡◌, ℕ, suc, ◌<◌, ◌^◌, List, [], ◌∷◌, ◌++◌, IsTrue, Some, IsSome, slice_get, if◌then◌else◌}
use Rattle.yew_laws.specs.Order.{comes_before}
use Rattle.yew_laws.specs.SearchTree.{SearchTree, at_path}
use Rattle.yew_log.specs.Items.{Item, items_of}
use Rattle.yew_ranked.specs.declared.task.RankedTask.{RankedTask}

-- the path of a task and its number among the items
pub record Numbered : Type 0 where
  pub path : List ℕ
  pub rank : ℕ

-- a task as contracts see it
abbrev pub numbered_task : RankedTask → Numbered
numbered_task task = record { path = task.path.numbers; rank = task.rank }

-- the tasks among items whose first one has this number, in order
abbrev pub tasks_from : ℕ → List Item → List Numbered
tasks_from rank [] = []
tasks_from rank (item ∷ items) = (if item.is_task then record { path = item.path; rank = rank } ∷ [] else []) ++ tasks_from (suc rank) items

-- the tasks of a tree at a depth, in order
abbrev pub tasks_of_tree : {N : Type 0} → SearchTree N → ℕ → List Numbered
tasks_of_tree t depth = tasks_from 0 (items_of t depth)

-- a path that is none of these items: those with a smaller number come before it, and it comes before the others
pub record IsBetween (items : List Item) (rank : ℕ) (path : List ℕ) : Type 0 where
  pub after : (r : ℕ) (item : Item) → slice_get items r ≡ Some item → r < rank → IsTrue (comes_before item.path path)
  pub before : (r : ℕ) (item : Item) → slice_get items r ≡ Some item → (r < rank → ⊥) → IsTrue (comes_before path item.path)

-- the task's number is below 2^20, and its path is one of the tree
pub record IsTaskOf {N : Type 0} (t : SearchTree N) (task : RankedTask) : Type 0 where
  pub few : task.rank < 2 ^ 20
  pub there : IsSome (at_path t task.path.numbers)

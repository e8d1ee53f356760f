-- What the words ask of a search.
use Rattle.std.specs.Prelude.{◌≡◌, ◌≤◌, ◌⊎◌, true, false, IsFalse}
use Rattle.yew_log.specs.Groups.{Skeleton as Table, one, all, sequential, by_depth, by_budget, by_steal, in_order}
use Rattle.yew_words.specs.declared.plan.Skeleton.{Skeleton}
use Rattle.yew_words.specs.declared.plan.Skeleton.TheVariants.{Sequential, Depth, Budget, Steal, Ordered}
use Rattle.yew_app.specs.declared.asked.Asked.{Asked}

-- by which table the groups of a log are judged
abbrev pub table_of : Skeleton → Table
table_of Sequential = sequential
table_of (Depth depth) = by_depth depth
table_of (Budget budget) = by_budget budget
table_of (Steal false) = by_steal one
table_of (Steal true) = by_steal all
table_of (Ordered depth) = in_order depth

-- one worker, which goes through the tree in preorder
abbrev pub IsSequential : Skeleton → Type 0
IsSequential skeleton = skeleton ≡ Sequential

-- every skeleton
abbrev pub IsAnySkeleton : Skeleton → Type 0
IsAnySkeleton skeleton = Unit {0}

-- tasks that are claimed in the order of their numbers
abbrev pub IsOrdered : Skeleton → Type 0
IsOrdered (Ordered depth) = Unit {0}
IsOrdered _ = ⊥

-- the skeletons under which the answer is the first best node
abbrev pub FindsFirst : Skeleton → Type 0
FindsFirst Sequential = Unit {0}
FindsFirst (Ordered depth) = Unit {0}
FindsFirst _ = ⊥

-- the number of backtracks after which a task gives work away is at least 1
abbrev pub HasBudget : Skeleton → Type 0
HasBudget (Budget budget) = 1 ≤ budget
HasBudget _ = Unit {0}

-- the depth of tasks that are claimed in order is from 1 to 255
abbrev pub HasDepth : Skeleton → Type 0
HasDepth (Ordered depth) = (1 ≤ depth) × (depth ≤ 255)
HasDepth _ = Unit {0}

-- what words can ask: 1 to 64 workers, and one alone in preorder
pub record IsAskable (asked : Asked) : Type 0 where
  pub some : 1 ≤ asked.workers
  pub few : asked.workers ≤ 64
  pub alone : IsSequential asked.skeleton → asked.workers ≡ 1
  pub budget : HasBudget asked.skeleton
  pub depth : HasDepth asked.skeleton

-- what is asked for is what one worker writes in preorder: that itself, or tasks in order with neither report nor audit
abbrev pub AsksFirst : Asked → Type 0
AsksFirst asked = IsSequential asked.skeleton ⊎ (IsOrdered asked.skeleton × IsFalse asked.report × IsFalse asked.audit)

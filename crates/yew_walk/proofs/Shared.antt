-- Tasks that a stack splits off.
use Rattle.std.proofs.Common.{◌≡◌, List, [], ◌∷◌, ◌++◌, ◌⊎◌, inl, inr, subst}
use Rattle.std.specs.List.{AllByRecursion, flat_map}
use Rattle.yew_laws.specs.declared.problem.Problem.{Ghosts}
use Rattle.yew_laws.specs.declared.problem.Task.{Task}
use Rattle.yew_laws.specs.Bag.{SameBag}
use Rattle.yew_laws.specs.SearchTree.{IsTask}
use Rattle.yew_log.specs.declared.entry.What.{What}
use Rattle.yew_stack.specs.declared.stacks.Chunk.{Chunk}
use Rattle.yew_stack.specs.Levels.{LevelValue, levels}
use Rattle.yew_stack.specs.Splits.{paths_of, appended, Splits, MovesLowest}
use Rattle.yew_stack.specs.ToCome.{to_come, task_members, AllOpen}
use Rattle.yew_walk.specs.LogViews.{LogView}
use Rattle.yew_walk.specs.Outlets.{OutletCall, was_given}
use Rattle.yew_walk.specs.Sharing.{IsSplitOff, IsShared}

module _ {S N K : Type 0} (meaning : Ghosts S N K) (problem : S) where
  -- behind an empty list all tasks were appended
  pub all-appended : (before tasks : List (Task N)) → before ≡ [] → AllByRecursion (λ task. IsTask meaning problem task.path.numbers task.node) (appended before tasks) → AllByRecursion (λ task. IsTask meaning problem task.path.numbers task.node) tasks
  all-appended before tasks none are = subst (λ (b : List (Task N)). AllByRecursion (λ (task : Task N). IsTask meaning problem task.path.numbers task.node) (appended b tasks)) none are

  -- what a split tells of the levels and of a list that was empty
  pub splits-off : (chunk : Chunk) (old new : List (LevelValue K)) (before tasks : List (Task N)) → before ≡ [] → Splits chunk (levels (meaning.remaining problem) old) before tasks (levels (meaning.remaining problem) new) → SameBag (to_come meaning problem old) (to_come meaning problem new ++ flat_map (task_members meaning problem) (appended before tasks)) → AllOpen meaning problem new × AllByRecursion (λ task. IsTask meaning problem task.path.numbers task.node) (appended before tasks) → IsSplitOff meaning problem old tasks new
  splits-off chunk old new before tasks none splits same are = record {
    split = either (subst (λ b. Splits chunk (levels (meaning.remaining problem) old) b tasks (levels (meaning.remaining problem) new)) none splits);
    to_come_is = subst (λ (b : List (Task N)). SameBag (to_come meaning problem old) (to_come meaning problem new ++ flat_map (task_members meaning problem) (appended b tasks))) none same;
    levels_open = are.0;
    tasks_are = all-appended before tasks none are.1;
  }
    where
      either : Splits chunk (levels (meaning.remaining problem) old) [] tasks (levels (meaning.remaining problem) new) → ((tasks ≡ []) × (levels (meaning.remaining problem) new ≡ levels (meaning.remaining problem) old)) ⊎ MovesLowest (levels (meaning.remaining problem) old) [] tasks (levels (meaning.remaining problem) new)
      either (inl none') = inl (none'.1, none'.2)
      either (inr moves) = inr moves.0

  -- a sharing whose one call makes more of the outlet
  pub shared-more : {chunk : Chunk} {what : What} {did more : List OutletCall → Type 0} {old new : List (LevelValue K)} {old_log new_log : LogView} {old_sent new_sent : List (Task N)} → ((calls : List OutletCall) → did calls → more calls) → IsShared meaning problem chunk what did old old_log old_sent new new_log new_sent → IsShared meaning problem chunk what more old old_log old_sent new new_log new_sent
  shared-more f s = record { tasks = s.tasks; is_off = s.is_off; splits = s.splits; log_is = s.log_is; within = s.within; sent_are = s.sent_are; given_is = f (was_given (paths_of s.tasks) ∷ []) s.given_is }

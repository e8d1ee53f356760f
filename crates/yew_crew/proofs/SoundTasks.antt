-- The tasks of a problem are those that the pass and the mail seat of a worker call sound, once they know the members of its tree.
use Rattle.std.proofs.Common.{◌≡◌, List, Option, Some, Result, Ok, Err, OnErr, refl, subst}
use Rattle.std.specs.List.{AllByRecursion}
use Rattle.yew_laws.specs.SearchTree.{search_tree, IsTask}
use Rattle.yew_laws.specs.Tasks.{Members, members_of, IsAmong}
use Rattle.yew_laws.specs.Tree.{IsRanked}
use Rattle.yew_laws.specs.declared.problem.Problem.{Ghosts}
use Rattle.yew_laws.specs.declared.problem.Task.{Task}
use Rattle.yew_laws.proofs.Members.{AllByRecursion-weaker}
use Rattle.yew_laws.proofs.TaskMembers.{among-task, task-among}
use Rattle.yew_pool.specs.Passes.{PassView, HasTaken}
use Rattle.yew_pool.specs.Takes.{IfTask}
use Rattle.yew_pool.specs.Tasks.{IsSoundFor}
use Rattle.yew_pool.specs.declared.pool.Take.{Take}
use Rattle.yew_pool.specs.declared.pool.Take.TheVariants.{Empty, Task as Taken}
use Rattle.yew_walk.specs.Outlets.{IsSentPart}
use Rattle.yew_crew.specs.OpenSeats.{OpenSeatView}
use Rattle.yew_crew.specs.Outlets.{SpawningView}
use Rattle.yew_crew.proofs.Putting.{sound_for}

-- a fact of a refusal leads to another
pub on_err : {X E A B : Type 0} (result : Result X E) → (A → B) → OnErr result A → OnErr result B
on_err (Ok x) f a = tt
on_err (Err e) f a = f a

module _ {S N K : Type 0} (meaning : Ghosts S N K) (problem : S) (ranked : IsRanked (meaning.sound problem) (meaning.children problem) (meaning.rank problem))
    (root : meaning.sound problem (meaning.root problem)) (about : Option (Members N)) (told : about ≡ Some (members_of (search_tree meaning problem))) where
  abbrev IsOurs : Task N → Type 0
  IsOurs task = IsTask meaning problem task.path.numbers task.node

  pub task-sound : (task : Task N) → IsOurs task → IsSoundFor IsAmong about task
  task-sound task is = sound_for IsAmong about (members_of (search_tree meaning problem)) task told (task-among (search_tree meaning problem) ranked root task is.found)

  pub sound-task : (task : Task N) → IsSoundFor IsAmong about task → IsOurs task
  sound-task task sound =
      let is = among-task (search_tree meaning problem) ranked root task (sound (members_of (search_tree meaning problem)) told) in
      record { is_sound = is.0; found = is.1 }

  pub tasks-sound : (tasks : List (Task N)) → AllByRecursion IsOurs tasks → AllByRecursion (IsSoundFor IsAmong about) tasks
  tasks-sound tasks all = AllByRecursion-weaker IsOurs (IsSoundFor IsAmong about) task-sound tasks all

  pub sound-tasks : (tasks : List (Task N)) → AllByRecursion (IsSoundFor IsAmong about) tasks → AllByRecursion IsOurs tasks
  sound-tasks tasks all = AllByRecursion-weaker (IsSoundFor IsAmong about) IsOurs sound-task tasks all

  -- some of the tasks were sent
  pub sent-ours : (before tasks after : List (Task N)) → IsSentPart (IsSoundFor IsAmong about) before tasks after → IsSentPart IsOurs before tasks after
  sent-ours before tasks after is = record { part = is.part; of_tasks = is.of_tasks; each = sound-tasks is.part is.each; sent_are = is.sent_are }

  -- a task that the pass took is one of the problem
  pub spawning-takes : (old : SpawningView S N) (pass new : PassView (Task N) (Members N)) (tasks : OpenSeatView) (r : Take N) → record { problem = problem; pass = pass; tasks = tasks } ≡ old → pass.members ≡ about
      → IfTask r (λ task. HasTaken pass task new × IsSoundFor IsAmong pass.members task)
      → IfTask r (λ task. (record { problem = problem; pass = new; tasks = tasks } ≡ record old { pass = new }) × HasTaken old.pass task new × IsTask meaning old.problem task.path.numbers task.node)
  spawning-takes old pass new tasks (Taken task) is same t =
      subst (λ (o : SpawningView S N). (record { problem = problem; pass = new; tasks = tasks } ≡ record o { pass = new }) × HasTaken o.pass task new × IsTask meaning o.problem task.path.numbers task.node)
      is (refl, t.0, sound-task task (subst (λ (m : Option (Members N)). IsSoundFor IsAmong m task) same t.1))
  spawning-takes old pass new tasks Empty is same t = tt

-- How tasks are split off a walk, recorded and sent.
use Rattle.std.specs.Prelude.{◌≡◌, ℕ, ◌⊎◌, List, [], ◌∷◌, ◌++◌}
use Rattle.std.specs.List.{AllByRecursion, flat_map}
use Rattle.yew_laws.specs.declared.problem.Problem.{Ghosts}
use Rattle.yew_laws.specs.declared.problem.Task.{Task}
use Rattle.yew_laws.specs.Bag.{SameBag}
use Rattle.yew_laws.specs.SearchTree.{IsTask}
use Rattle.yew_log.specs.declared.entry.What.{What}
use Rattle.yew_log.specs.declared.entry.What.TheVariants.{Spawned, Handed}
use Rattle.yew_log.specs.Policies.{PolicyMeaning, PolicyInput, on, spawn, hand}
use Rattle.yew_stack.specs.declared.stacks.Chunk.{Chunk}
use Rattle.yew_stack.specs.Levels.{LevelValue, levels}
use Rattle.yew_stack.specs.Splits.{paths_of, Splits, MovesLowest}
use Rattle.yew_stack.specs.ToCome.{to_come, task_members, AllOpen}
use Rattle.yew_walk.specs.declared.fault.SearchFault.{SearchFault}
use Rattle.yew_walk.specs.declared.fault.SearchFault.TheVariants.{Memory, AuditFull, TooManyTasks}
use Rattle.yew_walk.specs.Dealt.{part_of_chunk}
use Rattle.yew_walk.specs.LogViews.{LogView, all_noted, IsWithin, RefusesNote}
use Rattle.yew_walk.specs.Outlets.{OutletCall, was_asked, was_given, IsSentPart}

-- why the entries for these paths are not all there: memory ran out, or the log has no room for the first one
abbrev pub RefusesNotes : LogView → List (List ℕ) → SearchFault → Type 0
RefusesNotes log paths Memory = Unit {0}
RefusesNotes log [] (AuditFull worker entries numbers) = ⊥
RefusesNotes log (path ∷ paths) (AuditFull worker entries numbers) = RefusesNote log path (AuditFull worker entries numbers)
RefusesNotes log paths (TooManyTasks number) = ⊥

-- an entry for each of the first of these paths was recorded, and then one was refused
pub record StopsNoting (old : LogView) (what : What) (paths : List (List ℕ)) (fault : SearchFault) (new : LogView) : Type 0 where
  pub done : List (List ℕ)
  pub rest : List (List ℕ)
  pub paths_are : paths ≡ done ++ rest
  pub log_is : new ≡ all_noted old what done
  pub cause : RefusesNotes new rest fault

module _ {S N K : Type 0} (meaning : Ghosts S N K) (problem : S) where
  -- these tasks were split off, and the levels lack exactly these
  pub record IsSplitOff (old : List (LevelValue K)) (tasks : List (Task N)) (new : List (LevelValue K)) : Type 0 where
    pub split : ((tasks ≡ []) × (levels (meaning.remaining problem) new ≡ levels (meaning.remaining problem) old)) ⊎ MovesLowest (levels (meaning.remaining problem) old) [] tasks (levels (meaning.remaining problem) new)
    pub to_come_is : SameBag (to_come meaning problem old) (to_come meaning problem new ++ flat_map (task_members meaning problem) tasks)
    pub levels_open : AllOpen meaning problem new
    pub tasks_are : AllByRecursion (λ task. IsTask meaning problem task.path.numbers task.node) tasks

  -- a chunk of the lowest level was split off, recorded and sent, which is the one call that was made of the outlet
  pub record IsShared (chunk : Chunk) (what : What) (made : List OutletCall → Type 0) (old_stack : List (LevelValue K)) (old_log : LogView) (old_sent : List (Task N)) (new_stack : List (LevelValue K)) (new_log : LogView) (new_sent : List (Task N)) : Type 0 where
    pub tasks : List (Task N)
    pub is_off : IsSplitOff old_stack tasks new_stack
    pub splits : Splits chunk (levels (meaning.remaining problem) old_stack) [] tasks (levels (meaning.remaining problem) new_stack)
    pub log_is : new_log ≡ all_noted old_log what (paths_of tasks)
    pub within : IsWithin old_log.told → IsWithin new_log.told
    pub sent_are : SameBag new_sent (old_sent ++ tasks)
    pub given_is : made (was_given (paths_of tasks) ∷ [])

  -- the sharing was refused: some tasks were split off, the first of them were recorded, and where all were, a part was sent
  pub record StopsSharing (what : What) (fault : SearchFault) (old_stack : List (LevelValue K)) (old_log : LogView) (old_sent : List (Task N)) (new_stack : List (LevelValue K)) (new_log : LogView) (new_sent : List (Task N)) : Type 0 where
    pub tasks : List (Task N)
    pub is_off : IsSplitOff old_stack tasks new_stack
    pub noting : StopsNoting old_log what (paths_of tasks) fault new_log
    pub sent_are : (new_sent ≡ old_sent) ⊎ ((noting.rest ≡ []) × IsSentPart (λ (task : Task N). IsTask meaning problem task.path.numbers task.node) old_sent tasks new_sent)

  module _ {Q : Type 0} (policy : PolicyMeaning Q) (input : PolicyInput) where
    -- the outlet was asked, and what the policy asked for was done
    pub record IsAsked (made : List OutletCall → Type 0) (old_state : Q) (old_stack : List (LevelValue K)) (old_log : LogView) (old_sent : List (Task N)) (new_state : Q) (new_stack : List (LevelValue K)) (new_log : LogView) (new_sent : List (Task N)) : Type 0 where
      pub state_is : new_state ≡ policy.after old_state input
      pub act_done :
          ((policy.act old_state input ≡ on) × (new_stack ≡ old_stack) × (new_log ≡ old_log) × (new_sent ≡ old_sent) × made (was_asked input.wanted ∷ []))
          ⊎ (((chunk : Chunk) × (policy.act old_state input ≡ spawn (part_of_chunk chunk)) × IsShared chunk Spawned (λ calls. made (was_asked input.wanted ∷ calls)) old_stack old_log old_sent new_stack new_log new_sent)
          ⊎ ((chunk : Chunk) × (policy.act old_state input ≡ hand (part_of_chunk chunk)) × IsShared chunk Handed (λ calls. made (was_asked input.wanted ∷ calls)) old_stack old_log old_sent new_stack new_log new_sent))

    -- what a policy asked for was refused
    pub record StopsAsking (fault : SearchFault) (old_state : Q) (old_stack : List (LevelValue K)) (old_log : LogView) (old_sent : List (Task N)) (new_stack : List (LevelValue K)) (new_log : LogView) (new_sent : List (Task N)) : Type 0 where
      pub chunk : Chunk
      pub stops :
          ((policy.act old_state input ≡ spawn (part_of_chunk chunk)) × StopsSharing Spawned fault old_stack old_log old_sent new_stack new_log new_sent)
          ⊎ ((policy.act old_state input ≡ hand (part_of_chunk chunk)) × StopsSharing Handed fault old_stack old_log old_sent new_stack new_log new_sent)
